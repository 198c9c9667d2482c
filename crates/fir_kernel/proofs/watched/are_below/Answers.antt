use Rattle.fir_kernel.proofs.Groups.{all_below}
use Rattle.fir_kernel.proofs.watched.are_below.Goals as goal

pub returns-clause-a : goal.returns-clause-a
returns-clause-a c t =
    (all_below c.args.a c.args.b c.args.c c.args.d c.args.room c.requires.small c.requires.a c.requires.b c.requires.c c.requires.d
    c.requires.a_halves c.requires.b_halves c.requires.c_halves c.requires.d_halves t).0

pub returns-clause-b : goal.returns-clause-b
returns-clause-b c t =
    (all_below c.args.a c.args.b c.args.c c.args.d c.args.room c.requires.small c.requires.a c.requires.b c.requires.c c.requires.d
    c.requires.a_halves c.requires.b_halves c.requires.c_halves c.requires.d_halves t).1

pub returns-clause-c : goal.returns-clause-c
returns-clause-c c t =
    (all_below c.args.a c.args.b c.args.c c.args.d c.args.room c.requires.small c.requires.a c.requires.b c.requires.c c.requires.d
    c.requires.a_halves c.requires.b_halves c.requires.c_halves c.requires.d_halves t).2

pub returns-clause-d : goal.returns-clause-d
returns-clause-d c t =
    (all_below c.args.a c.args.b c.args.c c.args.d c.args.room c.requires.small c.requires.a c.requires.b c.requires.c c.requires.d
    c.requires.a_halves c.requires.b_halves c.requires.c_halves c.requires.d_halves t).3

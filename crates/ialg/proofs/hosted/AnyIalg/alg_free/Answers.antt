use Rattle.ialg.proofs.hosted.AnyIalg.alg_free.Goals as goal

pub returns : goal.returns
returns g c = λ p w h lawful writable lent idle. c.copied.ensures

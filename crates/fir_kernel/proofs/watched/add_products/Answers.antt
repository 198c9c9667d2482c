use Rattle.fir_kernel.proofs.Lanes.{all_widened}
use Rattle.fir_kernel.proofs.Groups.{paired_line, words_fit}
use Rattle.fir_kernel.proofs.watched.add_products.Goals as goal

pub overflow_cast-products : goal.overflow_cast-products
overflow_cast-products c = all_widened c.args.pair c.requires.words

pub overflow_cast-samples : goal.overflow_cast-samples
overflow_cast-samples c = all_widened _ (words_fit c.args.line.now c.args.at c.requires.samples)

pub returns : goal.returns
returns c s is =
    paired_line c.args.sums c.args.pair c.args.line.now c.args.at s is c.requires.eight c.requires.reach c.requires.words c.requires.samples

use Rattle.bench.proofs.Rows.{hold}
use Rattle.bench.proofs.the_bench_numbers_hold.Goals as goal

pub returns : goal.returns
returns c = record { law = hold }

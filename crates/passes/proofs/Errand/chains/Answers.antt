-- `Errand::chains` meets its contract: good records are in time. Assumes nothing.
use Rattle.passes.proofs.Given.{few_records, times_small}
use Rattle.passes.proofs.Errand.chains.Goals as goal

pub new-requires-clause-timely : goal.new-requires-clause-timely
new-requires-clause-timely c = times_small c.args.self.now.ready

pub new-requires-clause-few : goal.new-requires-clause-few
new-requires-clause-few c = few_records c.args.self.now.ready

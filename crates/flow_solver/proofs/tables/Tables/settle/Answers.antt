use Rattle.std.proofs.Common.{sym}
use Rattle.network.specs.Instance.{reduced}
use Rattle.flow_solver.proofs.PushLaws.{left_at_least_0}
use Rattle.flow_solver.proofs.tables.Tables.settle.Goals as goal

pub returns-then-show_cut-clause-count : goal.returns-then-show_cut-clause-count
returns-then-show_cut-clause-count c = left_at_least_0 (reduced c.args.self.now.moment.instance) c.args.self.now.moment.flow

pub returns-then-show_cut-clause-pushes : goal.returns-then-show_cut-clause-pushes
returns-then-show_cut-clause-pushes c = sym c.show_cut.ensures.flow

-- What the node lines of a problem give each node of the reduced instance.
use Rattle.std.specs.Prelude.{ℕ, ◌==◌, if◌then◌else◌, ℤ, pos, neg_ℤ, List, [], ◌∷◌}
use Rattle.dimacs_text.specs.declared.problem.Kind.{Kind}
use Rattle.dimacs_text.specs.declared.problem.Kind.TheVariants.{Min, Max, Asn}
use Rattle.dimacs_text.specs.declared.problem.NodeMark.{NodeMark}
use Rattle.dimacs_text.specs.declared.problem.NodeMark.TheVariants.{Supply, Source, Sink, Side}
use Rattle.dimacs_text.specs.Problem.{node_of, source_of, sink_of}
use Rattle.network.specs.declared.Goal.{Goal}
use Rattle.network.specs.declared.Goal.TheVariants.{LeastCost, GreatestFlow, Assignment}

-- the supply that a mark gives its node
abbrev pub marked_supply : NodeMark → ℤ
marked_supply (Supply id value) = value
marked_supply (Source id) = pos 0
marked_supply (Sink id) = pos 0
marked_supply (Side id) = pos 1

-- the supply of a node that no mark names
abbrev pub unmarked_supply : Kind → ℤ
unmarked_supply Min = pos 0
unmarked_supply Max = pos 0
unmarked_supply Asn = neg_ℤ (pos 1)

-- the supply by the mark that names the node, else the one given
abbrev pub supply_or : List NodeMark → ℕ → ℤ → ℤ
supply_or [] v none = none
supply_or (mark ∷ marks) v none = if node_of mark == v then marked_supply mark else supply_or marks v none

-- what a problem of a kind asks for
abbrev pub goal_of : Kind → List NodeMark → Goal
goal_of Min marks = LeastCost
goal_of Max marks = GreatestFlow (source_of marks) (sink_of marks)
goal_of Asn marks = Assignment

-- What a table of places shows.
use Rattle.std.specs.Prelude.{ℕ, zero, suc, ◌+◌, ◌*◌, Bool, cond, List, [], ◌∷◌, length, drop, is_some, Some, None, Option, nat_lt, slice_index, slice_index_or}
use Rattle.grammar.specs.Model.{Grammar}
use Rattle.tour.specs.Rules.{rule, symbol}
use Rattle.tour.specs.Runs.{State}
use Rattle.tour.specs.Trees.{Instance}
use Rattle.tour.specs.Nodes.{Link, Cell, Table}
use Rattle.tour.specs.Nodes.Link.{top, under}
use Rattle.places.specs.Marks.{owes}
use Rattle.places.specs.declared.node.Node.{Node}
use Rattle.places.specs.declared.node.Parent.{Parent}

-- a place; past the end of the table there are free ones only
abbrev pub at : List (Option Node) → ℕ → Option Node
at ps p = slice_index_or ps p None

abbrev pub used : List (Option Node) → ℕ → Bool
used ps p = is_some (at ps p)

-- where the node at a place hangs, if it does
abbrev pub parent_in : Option Node → Option Parent
parent_in None = None
parent_in (Some n) = n.parent

abbrev pub parent_at : List (Option Node) → ℕ → Option Parent
parent_at ps p = parent_in (at ps p)

abbrev pub marks_in : Option Node → ℕ
marks_in None = 0
marks_in (Some n) = n.marks

-- how many children a node of rule r has
abbrev pub arity : Grammar → ℕ → ℕ
arity g r = length (rule g r).right

-- how many attributes a node of rule r has
abbrev pub attributes : Grammar → ℕ → ℕ
attributes g r = length (symbol g (rule g r).left).attributes

-- the first n numbers of a row, which counts as 0 past its end
abbrev pub firsts : ℕ → List ℕ → List ℕ
firsts zero cs = []
firsts (suc n) cs = slice_index cs 0 ∷ firsts n (drop 1 cs)

abbrev pub link_of : Option Parent → Link
link_of None = top
link_of (Some u) = under u.place u.position

abbrev pub cell_of : Grammar → Option Node → Cell
cell_of g None = record { rule = 0; code = 0; link = top; kids = [] }
cell_of g (Some n) = record { rule = n.rule; code = n.datum; link = link_of n.parent; kids = firsts (arity g n.rule) n.children }

-- the nodes by place, as the theory of tours speaks of them
abbrev pub table : Grammar → List (Option Node) → Table
table g ps p = cell_of g (at ps p)

-- whether an instance is owed: the mark of its attribute at its place
abbrev pub owed_at : List (Option Node) → Instance → Bool
owed_at ps x = owes (marks_in (at ps x.0)) x.1

-- The value of attribute a at place p stands in entry 16 × p + a; attributes past the sixteenth have none.
abbrev pub value_at : {V : Type 0} → V → List V → Instance → V
value_at missing vs x = cond (nat_lt x.1 16) (slice_index_or vs (16 * x.0 + x.1) missing) missing

-- values and marks, as the theory of tours speaks of them
abbrev pub state_of : {V : Type 0} → V → List (Option Node) → List V → State Instance V
state_of missing ps vs = record { value = value_at missing vs; owed = owed_at ps }

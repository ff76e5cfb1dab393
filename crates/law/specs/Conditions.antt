-- The conditions under which calls are declined, each stated once, and what it means to try them in order.
use Rattle.std.specs.Prelude.{◌≡◌, ℕ, ◌+◌, ◌-◌, ◌*◌, ◌<◌, true, ◌⊎◌, List, [], ◌∷◌, length, Some, None, Option, ◌≢◌}
use Rattle.std.specs.List.{slice_get}
use Rattle.grammar.specs.Model.{Equation, Rule, Grammar}
use Rattle.tour.specs.Rules.{rule}
use Rattle.tour.specs.Runs.{In}
use Rattle.tour.specs.Trees.{Instance, Forest, Agrees, instances}
use Rattle.tour.specs.Touring.{tour}
use Rattle.tour.specs.Shapes.{tree_from}
use Rattle.tour.specs.Walks.{Within}
use Rattle.tour.specs.Blocks.{pieces}
use Rattle.places.specs.Places.{at, used, table, owed_at}
use Rattle.places.specs.Shape.{Held, top_from, depth_from}
use Rattle.places.specs.declared.node.Node.{Node}
use Rattle.law.specs.Handed.{Archive, Rundown, Ticket, Piece}
use Rattle.law.specs.declared.decline.Decline.{Decline}

-- an equation of the sheet whose function the archive does not have with as many arguments
pub record Lacking {V : Type 0} (g : Grammar) (m : Archive V) : Type 0 where
  pub rule_number : ℕ
  pub rule_there : Rule
  pub rule_stands : slice_get g.rules rule_number ≡ Some rule_there
  pub equation_number : ℕ
  pub equation : Equation
  pub equation_stands : slice_get rule_there.equations equation_number ≡ Some equation
  pub counted_other : m.count equation.function ≡ Some (length equation.arguments) → ⊥

abbrev pub BadSize : List (Option Node) → Type 0
BadSize ps = (length ps < 1) ⊎ (4096 < length ps)

abbrev pub ShortValues : {V : Type 0} → List (Option Node) → List V → Type 0
ShortValues ps vs = length vs < 16 * length ps

abbrev pub FewCells : ℕ → Type 0
FewCells cells = cells < 64

abbrev pub BadLength : List Piece → Type 0
BadLength b = (length b < 1) ⊎ (1024 < length b)

-- no tree with symbol x at its root agrees with the sheet and has these pieces in preorder
abbrev pub FormlessFrom : Grammar → ℕ → List Piece → Type 0
FormlessFrom g x b = (f : Forest) → Agrees g f (x ∷ []) → pieces f ≢ b

abbrev pub Formless : Grammar → List Piece → Type 0
Formless g b = (x : ℕ) → FormlessFrom g x b

-- some path of the block's tree has more than 64 nodes
abbrev pub TooDeep : Grammar → List Piece → Type 0
TooDeep g b = (x : ℕ) (f : Forest) → Agrees g f (x ∷ []) → pieces f ≡ b → Within f 64 → ⊥

abbrev pub TooFew : ℕ → List Piece → Type 0
TooFew free b = free < length b

-- the ticket is of this opening, and its root is held
abbrev pub HoldsBlock : {V : Type 0} → Rundown V → Ticket → Type 0
HoldsBlock r t = (t.tag ≡ r.tag) × Held r.places r.root t.root

abbrev pub symbol_in : Grammar → Option Node → ℕ
symbol_in g None = 0
symbol_in g (Some n) = (rule g n.rule).left

abbrev pub OtherSymbol : Grammar → List (Option Node) → ℕ → ℕ → Type 0
OtherSymbol g ps p q = symbol_in g (at ps p) ≡ symbol_in g (at ps q) → ⊥

-- some node of the block at h would stand more than 64 deep where p stands now
pub record ResultTooDeep (ps : List (Option Node)) (h p : ℕ) : Type 0 where
  pub node_at : ℕ
  pub node_used : used ps node_at ≡ true
  pub in_block : top_from ps 64 node_at ≡ h
  pub deep : 64 < (depth_from ps 64 p - 1) + depth_from ps 64 node_at

-- the tree that a table shows at its root
abbrev pub tree_of : {V : Type 0} → Grammar → Rundown V → Forest
tree_of g r = tree_from (table g r.places) 63 r.root

-- an owed instance of the tree that the tour does not meet
pub record UnmetInstance {V : Type 0} (g : Grammar) (r : Rundown V) : Type 0 where
  pub which : Instance
  pub in_tree : In which (instances g (tree_of g r))
  pub is_owed : owed_at r.places which ≡ true
  pub not_met : In which (tour g (tree_of g r)) → ⊥

-- no instance of the tree is owed
abbrev pub Settled : {V : Type 0} → Grammar → Rundown V → Type 0
Settled g r = (x : Instance) → In x (instances g (tree_of g r)) → owed_at r.places x ≢ true

-- Checks are tried in order: the answer is the first whose condition holds, and None just if none does.
abbrev pub Checks : Type 1
Checks = Option Decline → Type 0

abbrev pub passed : Checks
passed None = Unit {0}
passed (Some d) = ⊥

abbrev pub check : Type 0 → Decline → Checks → Checks
check condition d later None = (condition → ⊥) × later None
check condition d later (Some e) = (condition × (e ≡ d)) ⊎ ((condition → ⊥) × later (Some e))

-- How deep a block is.
use Rattle.std.specs.Prelude.{◌≡◌, ℕ, ◌≤◌, true, cond, ◌&&◌, List, Option, ◌==◌}
use Rattle.places.specs.Places.{used}
use Rattle.places.specs.Shape.{top_from, depth_from}
use Rattle.places.specs.declared.node.Node.{Node}

-- the depth of a place of the block; 0 for every other place
abbrev pub depth_in : List (Option Node) → ℕ → ℕ → ℕ
depth_in ps block q = cond (used ps q && top_from ps 64 q == block) (depth_from ps 64 q) 0

-- no place of the block is deeper than h, and one is as deep
pub record Height (ps : List (Option Node)) (block h : ℕ) : Type 0 where
  pub most : (q : ℕ) → used ps q ≡ true → top_from ps 64 q ≡ block → depth_from ps 64 q ≤ h
  pub deepest : ℕ
  pub there : used ps deepest ≡ true
  pub inside : top_from ps 64 deepest ≡ block
  pub reached : depth_from ps 64 deepest ≡ h

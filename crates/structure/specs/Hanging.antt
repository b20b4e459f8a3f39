-- Defines how work lists children: place j holds the first child of j, and place n + c holds the sibling behind column c.
-- Assumes nothing.
use Rattle.std.specs.Prelude.{ℕ, zero, suc, ◌+◌, ◌<◌, ◌≤◌, List, length, get_or, set}

-- puts column c before the children of p; a root, whose parent is 0, is not hung
unfoldable pub hanging : ℕ → ℕ → ℕ → List ℕ → List ℕ
hanging n zero c work = work
hanging n (suc p) c work = set (set work (n + c) (get_or work (suc p) 0)) (suc p) c

-- work has places for the links of p and c
pub record Hangable (n p c : ℕ) (work : List ℕ) : Type 0 where
  pub parent : p ≤ n
  pub column : c ≤ n
  pub long : n + n < length work

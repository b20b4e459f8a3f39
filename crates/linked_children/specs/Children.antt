-- Defines the children that links in work list, and the rows that each child hands on.
-- Assumes nothing.
use Rattle.std.specs.Prelude.{ℕ, suc, ◌+◌, ◌-◌, ◌<◌, ◌≤◌, ◌≢◌, List, length, get_or}
use Rattle.papers.specs.Lists.{◌∈◌}
use Rattle.list_laws.specs.Parts.{part}
use Rattle.column_laws.specs.Chains.{Chain, Desc}

-- the rows of column c in the stored lists
abbrev pub rows_of : List ℕ → ℕ → ℕ
rows_of fstarts c = get_or fstarts c 0 - get_or fstarts (c - 1) 0

-- the rows that column c hands on: its list without the least row
abbrev pub handed_rows : List ℕ → List ℕ → ℕ → List ℕ
handed_rows fstarts frows c = part (get_or fstarts (c - 1) 0 + 1) (get_or fstarts c 0) frows

-- column c, whose list is not empty
pub record Child (fstarts : List ℕ) (c : ℕ) : Type 0 where
  pub first : 1 ≤ c
  pub started : c < length fstarts
  pub begins : get_or fstarts (c - 1) 0 < get_or fstarts c 0

-- column c, whose list is stored
pub record StoredChild (c : ℕ) (fstarts frows : List ℕ) : Type 0 where
  pub child : Child fstarts c
  pub ends : get_or fstarts c 0 ≤ length frows

-- the links at n in work list these children from c on, the later ones first
pub record Siblings (n c : ℕ) (fstarts work children : List ℕ) : Type 0 where
  pub chain : Chain work n c children
  pub desc : Desc (suc c) children
  pub each : (d : ℕ) → d ∈ children → Child fstarts d
  pub most : (d : ℕ) → d ∈ children → d ≤ n
  pub links : n + n < length work

-- links list some children from c on
pub record Linked (n c : ℕ) (fstarts work : List ℕ) : Type 0 where
  pub children : List ℕ
  pub siblings : Siblings n c fstarts work children

-- b is one of the children linked from c on, and no child of these has more rows
pub record Longest (n c : ℕ) (fstarts work : List ℕ) (b : ℕ) : Type 0 where
  pub among : (children : List ℕ) → Chain work n c children → c ≢ 0 → b ∈ children
  pub most : (children : List ℕ) → Chain work n c children → c ≢ 0 → (d : ℕ) → d ∈ children → rows_of fstarts d ≤ rows_of fstarts b

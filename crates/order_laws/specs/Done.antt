-- Defines the order rule step by step. `done` lists the columns of the steps done, the last one first.
-- Assumes nothing.
use Rattle.std.specs.Prelude.{ℕ, ◌≡◌, ◌↔◌, ◌≢◌, List, [], ◌∷◌, ◌++◌}
use Rattle.papers.specs.Lists.{◌∈◌}
use Rattle.papers.specs.Tree.{Under}

module _ (par : ℕ → ℕ) where
  -- the last steps are those of the proper descendants of j, and of no others; j is not done
  pub record SubtreeDone (done : List ℕ) (j : ℕ) : Type 0 where
    pub inside : List ℕ
    pub before : List ℕ
    pub split : done ≡ inside ++ before
    pub all : (x : ℕ) → (x ∈ inside) ↔ (Under par j x × (x ≢ j))
    pub new : ¬ (j ∈ done)

  -- at every step, the column finds its subtree done right before it
  abbrev pub Valid : List ℕ → List ℕ → Type 0
  Valid done [] = Unit {0}
  Valid done (j ∷ js) = SubtreeDone done j × Valid (j ∷ done) js

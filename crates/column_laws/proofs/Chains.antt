-- Proves facts of columns listed by links: where the list ends, what comes next, and that the list stays the same while its own links do.
-- Assumes nothing.
use Prim.Native.Nat.{ℕ, suc, ◌+◌, ◌<◌, ◌≤◌}
use mathlib.Core.Path.{◌≡◌, refl, sym}
use mathlib.Core.Logic.{◌≢◌}
use mathlib.Core.List.Memᴰ
use mathlib.Core.List.{List, [], ◌∷◌}
use native.Mathlib.Omega.{arith}
use lib.ListN.{get_or}
use Rattle.papers.specs.Lists.{◌∈◌}
use Rattle.column_laws.specs.Chains.{Chain, Desc}

pub chain-end : (w : List ℕ) (o c : ℕ) (l : List ℕ) → Chain w o c l → c ≡ 0 → l ≡ []
chain-end w o c [] h e = refl
chain-end w o c (x ∷ xs) h e = absurd (omega (arith, h.0, h.1.0))

-- a chain from c on that has not ended: its first column, and the rest
pub record Linked (w : List ℕ) (o c : ℕ) (l : List ℕ) : Type 0 where
  pub rest : List ℕ
  pub is : l ≡ c ∷ rest
  pub positive : 1 ≤ c
  pub chain : Chain w o (get_or w (o + c) 0) rest

pub chain-on : (w : List ℕ) (o c : ℕ) (l : List ℕ) → Chain w o c l → c ≢ 0 → Linked w o c l
chain-on w o c [] h e = absurd (e h)
chain-on w o c (x ∷ xs) h e = rw h.0 (record { rest = xs; is = refl; positive = h.1.0; chain = h.1.1 })

-- the links decide the list
pub chain-only : (w : List ℕ) (o c : ℕ) (l k : List ℕ) → Chain w o c l → Chain w o c k → l ≡ k
chain-only w o c [] k h g = sym (chain-end w o c k g h)
chain-only w o c (x ∷ xs) [] h g = absurd (omega (arith, h.0, h.1.0))
chain-only w o c (x ∷ xs) (y ∷ ys) h g =
    let heads : x ≡ y = omega (arith, h.0, g.0) in
    let tails = chain-only w o (get_or w (o + x) 0) xs ys h.1.1 (rw heads g.1.1) in
    cc

-- if another work has the same links, it has the same chain
pub chain-ext : (w w' : List ℕ) (o c : ℕ) (l : List ℕ) → ((x : ℕ) → x ∈ l → get_or w' (o + x) 0 ≡ get_or w (o + x) 0) → Chain w o c l → Chain w' o c l
chain-ext w w' o c [] f h = h
chain-ext w w' o c (x ∷ xs) f h =
    (h.0, (h.1.0, rw (f x (Memᴰ.head refl)) (chain-ext w w' o (get_or w (o + x) 0) xs (λ y m. f y (Memᴰ.tail m)) h.1.1)))

pub desc-weaken : (a b : ℕ) (l : List ℕ) → a ≤ b → Desc a l → Desc b l
desc-weaken a b [] h s = tt
desc-weaken a b (x ∷ xs) h s = (omega (arith, s.0), s.1)

-- a descending chain begins below its bound
pub desc-first : (w : List ℕ) (o c b : ℕ) (l : List ℕ) → Chain w o c l → Desc b l → 1 ≤ b → (c < b) × Desc (suc c) l
desc-first w o c b [] h s g = (omega (arith, h), tt)
desc-first w o c b (x ∷ xs) h s g = (omega (arith, h.0, s.0), (omega (arith, h.0), s.1))

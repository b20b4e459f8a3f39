-- Proves that filing a column puts it first in the bucket of its next row, and that all other columns keep their places.
-- Assumes nothing.
use Prim.Native.Nat.{ℕ, ◌+◌, ◌-◌, ◌<◌, ◌≤◌}
use mathlib.Core.Path.{◌≡◌, refl, sym, ap, subst, ◌∙◌}
use mathlib.Core.Logic.{◌⊎◌, inl, inr, ⊎_elim, ◌≢◌}
use mathlib.Core.List.Memᴰ
use mathlib.Core.List.{List, ◌∷◌}
use native.Mathlib.Omega.{arith}
use lib.ListN.{length, get_or}
use Rattle.papers.specs.Lists.{◌∈◌}
use Rattle.list_laws.proofs.Tests.{same_or}
use Rattle.rows_needed.specs.Buckets.{cursor, Points, Place, ColumnUpTo, Bucket, Buckets}
use Rattle.rows_needed.proofs.Buckets.{place-ext, Stays, bucket-move}

-- e is not in P, and is in P' with q as the place of its next row
pub record New (n i e q : ℕ) (starts rows : List ℕ) (P P' : ℕ → Type 0) : Type 0 where
  pub column : ColumnUpTo n e
  pub new : P e → ⊥
  pub out : (d : ℕ) → P' d → P d ⊎ (d ≡ e)
  pub inn : (d : ℕ) → P d → P' d
  pub has : P' e
  pub low : get_or starts (e - 1) 0 ≤ q
  pub high : q ≤ get_or starts e 0
  pub behind : (x : ℕ) → get_or starts (e - 1) 0 ≤ x → x < q → get_or rows x 0 ≤ i
  pub ahead : q < get_or starts e 0 → (i < get_or rows q 0) × (get_or rows q 0 ≤ n)

-- places column e at q, and moves nothing else
pub record Moved (n e q : ℕ) (w w' : List ℕ) : Type 0 where
  pub placed : cursor n w' e ≡ q
  pub stay : (d : ℕ) → ColumnUpTo n d → d ≢ e → Stays n w w' d
  pub long : length w' ≡ length w

module _ {n i c e q : ℕ} {starts rows w : List ℕ} {P P' : ℕ
    → Type 0} (w' : List ℕ) (b : Buckets n i starts rows w P c) (k : New n i e q starts rows P P') (m : Moved n e q w w') where
  stays : (d : ℕ) → P d → Stays n w w' d
  stays d h = m.stay d (b.range d h) (λ z. k.new (subst P z h))

  range : (d : ℕ) → P' d → ColumnUpTo n d
  range d h = ⊎_elim (λ (u : P d). b.range d u) (λ (u : d ≡ e). rw u k.column) (k.out d h)

  place-e : Place n i starts rows w' e
  place-e =
      record {
        from_start = rw m.placed k.low;
        to_end = rw m.placed k.high;
        behind = λ x u v. k.behind x u (rw m.placed at v);
        ahead = λ u. rw m.placed (omega (arith, k.ahead (rw m.placed at u)));
      }

  place : (d : ℕ) → P' d → Place n i starts rows w' d
  place d h = ⊎_elim (λ (u : P d). place-ext n starts rows w w' i d (stays d u).cursors (b.place d u)) (λ (u : d ≡ e). rw u place-e) (k.out d h)

  -- a bucket without e stays
  keeps : {r s : ℕ} → Bucket n r starts rows w P s → (Points n starts rows w' e r → ⊥) → Bucket n r starts rows w' P' s
  keeps {r} u away =
      bucket-move w' P' u (λ d h z. k.inn d h)
      (λ d h z. ⊎_elim (λ (y : P d). y) (λ (y : d ≡ e). absurd (away (subst (λ x. Points n starts rows w' x r) y z))) (k.out d h))
      stays

  -- e becomes the first of this bucket
  pushes : {r s : ℕ} → Bucket n r starts rows w P s → Points n starts rows w' e r → get_or w' (n + n + e) 0 ≡ s → Bucket n r starts rows w' P' e
  pushes {r} {s} u at link =
      record {
        list = e ∷ v.list;
        chain = (refl, (k.column.0, rw link v.chain));
        from = λ d h. from d (Memᴰ.cases_cons h);
        into = λ d h z. ⊎_elim (λ (y : P d). Memᴰ.tail (v.into d y z)) (λ (y : d ≡ e). Memᴰ.head y) (k.out d h);
        once = (λ h. k.new (v.from e h).0, v.once);
      }
    where
      v : Bucket n r starts rows w' P s
      v = bucket-move w' P u (λ d h z. h) (λ d h z. h) stays

      from : (d : ℕ) → (d ≡ e) ⊎ (d ∈ v.list) → P' d × Points n starts rows w' d r
      from d (inl y) = rw y (k.has, at)
      from d (inr y) = let o = v.from d y in (k.inn d o.0, o.1)

  -- the column has no row left
  pub file-none : get_or starts e 0 ≤ q → ((r : ℕ) → r ≤ n → get_or w' (n + r) 0 ≡ get_or w (n + r) 0) → Buckets n i starts rows w' P' c
  file-none g heads =
      record {
        range = range;
        place = place;
        bucket = λ r u v. rw (heads r v) (keeps (b.bucket r u v) (ended r));
        left = keeps b.left (ended i);
        long = rw m.long b.long;
      }
    where
      ended : (r : ℕ) → Points n starts rows w' e r → ⊥
      ended r z = omega (arith, m.placed, z.0)

  -- the column becomes the first of the bucket of its next row
  pub file-some : q < get_or starts e 0 → get_or w' (n + get_or rows q 0) 0 ≡ e → get_or w' (n + n + e) 0 ≡ get_or w (n + get_or rows q 0) 0
      → ((r : ℕ) → r ≤ n → r ≢ get_or rows q 0 → get_or w' (n + r) 0 ≡ get_or w (n + r) 0) → Buckets n i starts rows w' P' c
  file-some g head link heads =
      record {
        range = range;
        place = place;
        bucket = bucket;
        left = keeps b.left (λ z. omega (arith, row i z, k.ahead g));
        long = rw m.long b.long;
      }
    where
      row : (r : ℕ) → Points n starts rows w' e r → r ≡ get_or rows q 0
      row r z = sym z.1 ∙ ap (λ x. get_or rows x 0) m.placed

      bucket : (r : ℕ) → i < r → r ≤ n → Bucket n r starts rows w' P' (get_or w' (n + r) 0)
      bucket r u v =
          ⊎_elim
          (λ (z : r ≡ get_or rows q 0).
          let first : get_or w' (n + r) 0 ≡ e = ap (λ x. get_or w' (n + x) 0) z ∙ head in
          rw first (pushes (b.bucket r u v) (rw m.placed (g, sym z)) (rw z link)))
          (λ (z : r ≢ get_or rows q 0). rw (heads r v z) (keeps (b.bucket r u v) (λ y. z (row r y))))
          (same_or r (get_or rows q 0))

-- Proves what filing a column stores: the place of its next row and, if it has such a row, two links.
-- Assumes nothing.
use Prim.Native.Nat.{ℕ, ◌+◌, ◌<◌, ◌≤◌}
use mathlib.Core.Path.{◌≡◌, refl, ◌∙◌}
use mathlib.Core.Logic.{⊎_elim, ◌≢◌}
use mathlib.Core.List.{List}
use native.Mathlib.Omega.{arith}
use lib.ListN.{length, get_or, set, length-set}
use lib.Seq.{get_or-set_same, get_or-set_other}
use borrow.Author.Tests.{lt-ltb, le-ltb}
use Rattle.list_laws.proofs.Tests.{below_or}
use Rattle.rows_needed.specs.Buckets.{ColumnUpTo, Buckets, put_first, filed}
use Rattle.rows_needed.proofs.Filing.{New, Moved, file-none, file-some}

pub filed-some : (n c q : ℕ) (starts rows w : List ℕ) → q < get_or starts c 0
    → filed n c q starts rows w ≡ put_first n (get_or rows q 0) c (set w (n + n + n + c) q)
unfolding filed
filed-some n c q starts rows w h = rw (lt-ltb q (get_or starts c 0) h, filed)

pub filed-none : (n c q : ℕ) (starts rows w : List ℕ) → get_or starts c 0 ≤ q → filed n c q starts rows w ≡ set w (n + n + n + c) q
unfolding filed
filed-none n c q starts rows w h = rw (le-ltb q (get_or starts c 0) h, filed)

pub pushed-is : (n r c : ℕ) (w : List ℕ) → put_first n r c w ≡ set (set w (n + n + c) (get_or w (n + r) 0)) (n + r) c
unfolding put_first
pushed-is n r c w = refl

module _ (n e q : ℕ) (w : List ℕ) (column : ColumnUpTo n e) (long : n + n + n + n < length w) where
  placed : Moved n e q w (set w (n + n + n + e) q)
  placed =
      record {
        placed = get_or-set_same w (n + n + n + e) q 0 (omega arith);
        stay = λ d h z.
            record {
              cursors = get_or-set_other w (n + n + n + e) (n + n + n + d) q 0 (λ y. z (omega arith));
              links = get_or-set_other w (n + n + n + e) (n + n + d) q 0 (λ y. omega arith);
            };
        long = length-set w (n + n + n + e) q;
      }

  low : (x : ℕ) → x ≤ n + n → get_or (set w (n + n + n + e) q) x 0 ≡ get_or w x 0
  low x h = get_or-set_other w (n + n + n + e) x q 0 (λ y. omega arith)

  -- puts the column first in the bucket of row r
  module _ (r : ℕ) (first : 1 ≤ r) (most : r ≤ n) where
    abbrev w₂ : List ℕ
    w₂ = put_first n r e (set w (n + n + n + e) q)

    push-other : (x : ℕ) → x ≢ n + r → x ≢ n + n + e → get_or w₂ x 0 ≡ get_or (set w (n + n + n + e) q) x 0
    push-other x a b =
        rw (pushed-is n r e (set w (n + n + n + e) q))
        (get_or-set_other (set (set w (n + n + n + e) q) (n + n + e) (get_or (set w (n + n + n + e) q) (n + r) 0)) (n + r) x e 0 a
        ∙ get_or-set_other (set w (n + n + n + e) q) (n + n + e) x (get_or (set w (n + n + n + e) q) (n + r) 0) 0 b)

    push-moved : Moved n e q w w₂
    push-moved =
        record {
          placed = push-other (n + n + n + e) (λ y. omega arith) (λ y. omega arith) ∙ placed.placed;
          stay = λ d h z.
              record {
                cursors = push-other (n + n + n + d) (λ y. omega arith) (λ y. omega arith) ∙ (placed.stay d h z).cursors;
                links = push-other (n + n + d) (λ y. omega arith) (λ y. z (omega arith)) ∙ (placed.stay d h z).links;
              };
          long = rw (pushed-is n r e (set w (n + n + n + e) q), length-set, length-set) (length-set w (n + n + n + e) q);
        }

    push-head : get_or w₂ (n + r) 0 ≡ e
    push-head =
        rw (pushed-is n r e (set w (n + n + n + e) q))
        (get_or-set_same (set (set w (n + n + n + e) q) (n + n + e) (get_or (set w (n + n + n + e) q) (n + r) 0)) (n + r) e 0
        (rw (length-set, length-set) (omega arith)))

    push-link : get_or w₂ (n + n + e) 0 ≡ get_or w (n + r) 0
    push-link =
        rw (pushed-is n r e (set w (n + n + n + e) q))
        (get_or-set_other (set (set w (n + n + n + e) q) (n + n + e) (get_or (set w (n + n + n + e) q) (n + r) 0)) (n + r) (n + n + e) e 0
        (λ y. omega arith)
        ∙ get_or-set_same (set w (n + n + n + e) q) (n + n + e) (get_or (set w (n + n + n + e) q) (n + r) 0) 0 (rw length-set (omega arith))
        ∙ low (n + r) (omega arith))

-- files a column
module _ {n i c e q : ℕ} {starts rows w : List ℕ} {P P' : ℕ → Type 0} (b : Buckets n i starts rows w P c) (k : New n i e q starts rows P P') where
  pub record Filed : Type 0 where
    pub buckets : Buckets n i starts rows (filed n e q starts rows w) P' c
    pub moved : Moved n e q w (filed n e q starts rows w)
    pub marks : (x : ℕ) → x ≤ n → get_or (filed n e q starts rows w) x 0 ≡ get_or w x 0

  pub file : Filed
  file = ⊎_elim (λ (h : q < get_or starts e 0). some h) (λ (h : get_or starts e 0 ≤ q). none h) (below_or q (get_or starts e 0))
    where
      none : get_or starts e 0 ≤ q → Filed
      none h =
          let z = filed-none n e q starts rows w h in
          let m = placed n e q w k.column b.long in
          let l = low n e q w k.column b.long in
          record {
            buckets = rw z (file-none (set w (n + n + n + e) q) b k m h (λ r u. l (n + r) (omega arith)));
            moved = rw z m;
            marks = λ x u. rw z (l x (omega arith));
          }

      some : q < get_or starts e 0 → Filed
      some h =
          let z = filed-some n e q starts rows w h in
          let a = k.ahead h in
          let first : 1 ≤ get_or rows q 0 = omega arith in
          let m = push-moved n e q w k.column b.long (get_or rows q 0) first a.1 in
          let l = low n e q w k.column b.long in
          let o = push-other n e q w k.column b.long (get_or rows q 0) first a.1 in
          let f = k.column in
          record {
            buckets = rw z
                (file-some (put_first n (get_or rows q 0) e (set w (n + n + n + e) q)) b k m h
                (push-head n e q w k.column b.long (get_or rows q 0) first a.1)
                (push-link n e q w k.column b.long (get_or rows q 0) first a.1)
                (λ r u y. o (n + r) (λ v. y (omega arith)) (λ v. omega arith) ∙ l (n + r) (omega arith)));
            moved = rw z m;
            marks = λ x u. rw z (o x (λ v. omega arith) (λ v. omega arith) ∙ l x (omega arith));
          }

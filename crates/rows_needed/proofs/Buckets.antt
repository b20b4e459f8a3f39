-- Proves facts of the buckets that hold columns by their next rows: how a bucket carries over to another work, which row follows a row that is done,
-- and how the first column is taken out.
-- Assumes nothing.
use Prim.Native.Nat.{ℕ, suc, ◌+◌, ◌-◌, ◌<◌, ◌≤◌}
use mathlib.Core.Path.{◌≡◌, refl, sym}
use mathlib.Core.Logic.{⊎_elim, ◌≢◌}
use mathlib.Core.List.Memᴰ
use mathlib.Core.List.{List, ◌∷◌}
use native.Mathlib.Omega.{arith}
use lib.ListN.{length, get_or}
use Rattle.papers.specs.Lists.{◌∈◌, Distinct}
use Rattle.papers.specs.Job.{column_of}
use Rattle.list_laws.proofs.Tests.{Compare, below, level, above, compare, below_or}
use Rattle.list_laws.proofs.Ascending.{drop_head}
use Rattle.list_laws.proofs.Slices.{At}
use Rattle.column_laws.specs.Tested.{Tested}
use Rattle.column_laws.proofs.Chains.{Linked, chain-end, chain-on, chain-ext}
use Rattle.column_laws.proofs.Columns.{row_at, rows-rise}
use Rattle.rows_needed.specs.Buckets.{cursor, Points, Place, ColumnUpTo, Bucket, Buckets}

module _ (n : ℕ) (starts rows w w' : List ℕ) where
  -- a column whose cursor stays points to the same row
  pub points-ext : (d r : ℕ) → cursor n w' d ≡ cursor n w d → Points n starts rows w d r → Points n starts rows w' d r
  points-ext d r e h = rw e h

  pub place-ext : (i d : ℕ) → cursor n w' d ≡ cursor n w d → Place n i starts rows w d → Place n i starts rows w' d
  place-ext i d e p =
      record {
        from_start = rw e p.from_start;
        to_end = rw e p.to_end;
        behind = λ q a b. p.behind q a (rw e at b);
        ahead = λ a. rw e (p.ahead (rw e at a));
      }

-- columns keep their cursors and their links
pub record Stays (n : ℕ) (w w' : List ℕ) (d : ℕ) : Type 0 where
  pub cursors : cursor n w' d ≡ cursor n w d
  pub links : get_or w' (n + n + d) 0 ≡ get_or w (n + n + d) 0

-- carries a bucket over from the columns of P to those of P'
pub bucket-move : {n r c : ℕ} {starts rows w : List ℕ} {P : ℕ → Type 0} (w' : List ℕ) (P' : ℕ → Type 0) → Bucket n r starts rows w P c
    → ((d : ℕ) → P d → Points n starts rows w d r → P' d) → ((d : ℕ) → P' d → Points n starts rows w' d r → P d) → ((d : ℕ) → P d → Stays n w w' d)
    → Bucket n r starts rows w' P' c
bucket-move {n} {r} {c} {starts} {rows} {w} {P} w' P' b there back stays =
    record {
      list = b.list;
      chain = chain-ext w w' (n + n) c b.list (λ d m. (stays d (b.from d m).0).links) b.chain;
      from = λ d m. let q = b.from d m in (there d q.0 q.1, points-ext n starts rows w w' d r (stays d q.0).cursors q.1);
      into = λ d m h. let p = back d m h in b.into d p (points-ext n starts rows w' w d r (sym (stays d p).cursors) h);
      once = b.once;
    }

-- another work that keeps the same buckets
pub buckets-ext : {n i c : ℕ} {starts rows w : List ℕ} {P : ℕ → Type 0} (w' : List ℕ) → ((x : ℕ) → n < x → get_or w' x 0 ≡ get_or w x 0)
    → length w' ≡ length w
    → Buckets n i starts rows w P c → Buckets n i starts rows w' P c
buckets-ext {n} {i} {c} {starts} {rows} {w} {P} w' f l b =
    record {
      range = b.range;
      place = λ d m. place-ext n starts rows w w' i d (stays d m).cursors (b.place d m);
      bucket = λ r u v. rw (f (n + r) (omega arith)) (bucket-move w' P (b.bucket r u v) (λ d m h. m) (λ d m h. m) stays);
      left = bucket-move w' P b.left (λ d m h. m) (λ d m h. m) stays;
      long = rw l b.long;
    }
  where
    stays : (d : ℕ) → P d → Stays n w w' d
    stays d m = let q = (b.range d m).0 in record { cursors = f (n + n + n + d) (omega arith); links = f (n + n + d) (omega arith) }

-- all columns of row i are done, and row i + 1 begins
module _ {n i : ℕ} {starts rows w : List ℕ} (b : Buckets n i starts rows w (ColumnUpTo n) 0) where
  pub none_left : (d : ℕ) → ColumnUpTo n d → Points n starts rows w d i → ⊥
  none_left d m h = Memᴰ.not-nil (rw (chain-end w (n + n) 0 b.left.list b.left.chain refl) at (b.left.into d m h))

  ahead-next : (d : ℕ) → ColumnUpTo n d → cursor n w d < get_or starts d 0 → suc i ≤ get_or rows (cursor n w d) 0
  ahead-next d m h =
      ⊎_elim
      (λ (u : i < get_or rows (cursor n w d) 0). u)
      (λ (u : get_or rows (cursor n w d) 0 ≤ i). absurd (none_left d m (h, omega (arith, (b.place d m).ahead h))))
      (below_or i (get_or rows (cursor n w d) 0))

  pub next_row : suc i ≤ n → Buckets n (suc i) starts rows w (ColumnUpTo n) (get_or w (n + suc i) 0)
  next_row l =
      record {
        range = b.range;
        place = λ d m. let p = b.place d m in
            record { from_start = p.from_start; to_end = p.to_end; behind = λ q u v. omega (arith, p.behind q u v); ahead = ahead-next d m };
        bucket = λ r u v. b.bucket r (omega arith) v;
        left = b.bucket (suc i) (omega arith) l;
        long = b.long;
      }

  -- if a column's pattern has row i + 1, that is its next row
  pub leaf-points : Tested n starts rows → (d : ℕ) → ColumnUpTo n d → suc i ∈ column_of starts rows d → Points n starts rows w d (suc i)
  leaf-points t d m h = let s = row_at t d m.1 (suc i) h in go s (compare s.place (cursor n w d))
    where
      k : Place n i starts rows w d
      k = b.place d m

      go : (s : At (suc i) (get_or starts (d - 1) 0) (get_or starts d 0) rows) → Compare s.place (cursor n w d) → Points n starts rows w d (suc i)
      go s (below l) = absurd (omega (arith, k.behind s.place s.low l, s.is))
      go s (level e) = (omega (arith, s.high), rw (← e) s.is)
      go s (above l) =
          absurd (omega (
            arith,
            ahead-next d m (omega (arith, s.high)),
            rows-rise t d m.1 (cursor n w d) s.place k.from_start l s.high,
            s.is,
          ))

-- ---- the first of the columns left is taken out

-- the columns without e
abbrev pub But : ℕ → ℕ → ℕ → Type 0
But n e d = ColumnUpTo n d × (d ≢ e)

pub record Taken (n i : ℕ) (starts rows w : List ℕ) (c : ℕ) : Type 0 where
  pub rest : Buckets n i starts rows w (But n c) (get_or w (n + n + c) 0)
  pub column : ColumnUpTo n c
  pub points : Points n starts rows w c i
  pub place : Place n i starts rows w c

pub take_out : {n i : ℕ} {starts rows w : List ℕ} (c : ℕ) → Buckets n i starts rows w (ColumnUpTo n) c → c ≢ 0 → Taken n i starts rows w c
take_out {n} {i} {starts} {rows} {w} c b h =
    record {
      rest = record {
        range = λ d m. m.0;
        place = λ d m. b.place d m.0;
        bucket = λ r u v. bucket-move w (But n c) (b.bucket r u v) (λ d m k. (m, other r d u k)) (λ d m k. m.0) (λ d m. record {
          cursors = refl;
          links = refl;
        });
        left = left;
        long = b.long;
      };
      column = here.0;
      points = here.1;
      place = b.place c here.0;
    }
  where
    next : Linked w (n + n) c b.left.list
    next = chain-on w (n + n) c b.left.list b.left.chain h

    here : ColumnUpTo n c × Points n starts rows w c i
    here = b.left.from c (rw next.is (Memᴰ.head refl))

    -- a column that points to a later row is another
    other : (r d : ℕ) → i < r → Points n starts rows w d r → d ≢ c
    other r d u k e = let z : get_or rows (cursor n w c) 0 ≡ r = rw (← e) k.1 in omega (arith, here.1.1)

    left : Bucket n i starts rows w (But n c) (get_or w (n + n + c) 0)
    left =
        let o : Distinct (c ∷ next.rest) = rw next.is at b.left.once in
        record {
          list = next.rest;
          chain = next.chain;
          from = λ d m. let k = b.left.from d (rw next.is (Memᴰ.tail m)) in ((k.0, λ e. o.0 (rw e at m)), k.1);
          into = λ d m k. drop_head c m.1 (rw next.is at (b.left.into d m.0 k));
          once = o.1;
        }

-- Proves that the lent slices are long enough for the column lists, and that zeros follow the lists once the places behind them are cleared.
-- Assumes nothing.
use Prim.Native.Nat.{ℕ, zero, suc, ◌+◌, ◌-◌, ◌<◌, ◌≤◌}
use mathlib.Core.Path.{◌≡◌, refl, sym, ap, ◌∙◌}
use mathlib.Core.List.{List, [], ◌∷◌, ◌++◌, map}
use native.Mathlib.Omega.{arith}
use lib.ListN.{length, get_or, take, drop, replicate, length-map, length-append, length-drop, length-replicate, get_or-append}
use lib.Seq.{sets-eq, length-sets}
use Rattle.papers.specs.Lists.{up_to, flat, starts_counted_from, zeros}
use Rattle.papers.specs.Job.{Pattern}
use Rattle.papers.specs.Fill.{R}
use Rattle.papers.specs.Tree.{parent}
use Rattle.papers.specs.Key.{lists_of}
use Rattle.papers.specs.Analysis.{Lent}
use Rattle.list_laws.proofs.Stores.{length-starts}
use Rattle.list_laws.proofs.UpTo.{length-up_to}
use Rattle.job_laws.proofs.Starts.{start-at}
use Rattle.job_laws.proofs.Laid.{length-lists, laid-starts}
use Rattle.list_laws.specs.From.{zeros_from}
use Rattle.list_laws.proofs.From.{cleared-from, stored-from}
use Rattle.structure.specs.Listed.{Listable, ColumnsListed}
use Rattle.lent.specs.Six.{six_slices}
use Rattle.lent.proofs.Alike.{part-long}
use Rattle.lent_lists.specs.Listing.{ListableIn, Listing}

-- ---- zeros behind the first places

-- a slice is zero from place n on
abbrev pub ZerosBehind : ℕ → List ℕ → Type 0
ZerosBehind n l = drop n l ≡ replicate (length l - n) 0

-- clearing it from there on makes it so
pub cleared-behind : (n : ℕ) (l : List ℕ) → ZerosBehind n (zeros_from n l)
unfolding zeros_from
cleared-behind zero l = let e : length (zeros l) - 0 ≡ length l = omega (arith, length-replicate {A = ℕ} (length l) 0) in rw e
cleared-behind (suc n) [] = let e : 0 - suc n ≡ 0 = omega arith in rw e
cleared-behind (suc n) (x ∷ l) =
    let e : length (x ∷ zeros_from n l) - suc n ≡ length (zeros_from n l) - n = omega arith in rw e (cleared-behind n l)

-- the same of its parts as code puts them together: those before place n, cleared ones, and none
abbrev parts : ℕ → List ℕ → List ℕ → List ℕ
parts n l rest = take n l ++ (rest ++ drop (length l - n) (drop n l))

module _ (n : ℕ) (l : List ℕ) {rest : List ℕ} (h : n ≤ length l) (z : rest ≡ zeros (take (length l - n) (drop n l))) where
  pub parts-behind : ZerosBehind n (parts n l rest)
  parts-behind = rw (cleared-from n l h z) (cleared-behind n l)

  pub parts-long : length (parts n l rest) ≡ length l
  unfolding zeros_from
  parts-long =
      rw (cleared-from n l h z)
      (omega (arith, length-append (take n l) (zeros (drop n l)), length-replicate {A = ℕ} (length (drop n l)) 0, length-drop n l, part-long n l h))

-- the first n places are others
pub others-long : (n : ℕ) (l x : List ℕ) → n ≤ length l → length x ≡ length (take n l) → length (x ++ drop n l) ≡ length l
others-long n l x h e = omega (arith, length-append x (drop n l), length-drop n l, part-long n l h)

-- it equals a cleared slice of the same length there
behind-zero : (n : ℕ) (o l : List ℕ) → ZerosBehind n o → length o ≡ length l → drop n o ≡ zeros (drop n l)
behind-zero n o l z e = z ∙ rw (e, length-drop)

-- ---- the lists

module _ {n : ℕ} {starts rows : List ℕ} {before : Lent} (g : ListableIn n starts rows before) where
  -- the first places of order and pops serve as buffers
  pub listable : Listable n starts rows before.parents before.factor_starts (take n before.order) (take n before.pops) before.work
  listable =
      let long = g.long in
      record {
        tested = g.tested;
        lengths = record {
          parents-long = omega (arith, long);
          starts-long = omega (arith, long);
          room-x = omega (arith, part-long n before.order (omega (arith, long)));
          room-y = omega (arith, part-long n before.pops (omega (arith, long)));
          work-long = omega (arith, long);
        };
      }

  module _ {done : ℕ} {A : Pattern} {p s r : List ℕ} (h : ColumnsListed n done A before.parents before.factor_starts before.factor_rows p s r) where
    -- not all columns are done
    pub some-listed : {lent : Lent} → done < n → Listing n done A before lent
    some-listed few = record { lacks = h.lacks; all = λ l. absurd (omega arith) }

    module _ (all : n ≤ done) where
      abbrev ls : List (List ℕ)
      ls = lists_of n (R A)

      whole : ColumnsListed n n A before.parents before.factor_starts before.factor_rows p s r
      whole = let e : done ≡ n = omega (arith, h.most) in rw e at h

      length-begins : length (starts_counted_from 0 (lists_of n (R A))) ≡ n + 1
      length-begins = length-starts 0 ls ∙ ap (λ k. k + 1) (length-lists (R A) n)

      -- the last start says how many rows there are
      last-is : get_or s n 0 ≡ length (flat (lists_of n (R A)))
      last-is =
          let fits : 0 + length (starts_counted_from 0 ls) ≤ length before.factor_starts = omega (arith, length-begins, g.long) in
          rw (
            whole.starts-are,
            sets-eq (starts_counted_from 0 ls) before.factor_starts 0 fits,
            get_or-append (starts_counted_from 0 ls) _ 0 n (omega (arith, length-begins)),
          )
          (sym (start-at (starts_counted_from 0 ls) n) ∙ (rw (length-lists (R A) n) at (laid-starts ls).last))

      pub last_fits : get_or s n 0 ≤ length r
      last_fits = omega (arith, last-is, whole.fits, ap length whole.rows_are, length-sets before.factor_rows 0 (flat ls))

      -- all columns are done, and the places behind the lists are cleared
      pub all_listed : {p' o q s' r' w : List ℕ} → p' ≡ zeros_from n p → ZerosBehind n o → length o ≡ length before.order
          → ZerosBehind n q → length q ≡ length before.pops → s' ≡ zeros_from (n + 1) s → r' ≡ zeros_from (get_or s n 0) r
          → Listing n done A before (six_slices p' o q s' r' w)
      all_listed {o = o} {q} ep zo lo zq lq es er = record {
        lacks = λ l. absurd (omega arith);
        all = λ l. record {
          fits = whole.fits;
          parents =
              ep ∙ ap (zeros_from n) whole.parents-are ∙ stored-from (map (parent A) (up_to n)) before.parents
              (length-map (up_to n) (parent A) ∙ length-up_to n) (omega (arith, g.long));
          starts = es ∙ ap (zeros_from (n + 1)) whole.starts-are ∙ stored-from (starts_counted_from 0 ls) before.factor_starts length-begins
              (omega (arith, g.long));
          rows = er ∙ rw (last-is, whole.rows_are) (stored-from (flat ls) before.factor_rows refl whole.fits);
          order = behind-zero n o before.order zo lo;
          pops = behind-zero n q before.pops zq lq;
        };
      }

-- Proves that i rows whose gaps have one byte take i bytes, and that all are in their range if the last is, since they ascend.
-- Assumes nothing.
use Rattle.std.proofs.Common.{ℕ, ◌+◌, ◌-◌, ◌<◌, ◌≤◌, ◌≡◌, refl, ap, ◌∙◌, List, [], ◌∷◌, ◌++◌, arith}
use Rattle.std.proofs.Common.{length, get_or, set, take, drop, get_or-take, get_or-drop}
use Rattle.list_laws.proofs.Stores.{sets_more}
use Rattle.read_fields.proofs.Answers.{one-group, field_is}
use Rattle.read_fields.proofs.Onto.{length_more}
use Rattle.read_rows.specs.Rows.{RowsRead, ShortRead}
use Rattle.read_rows.proofs.Rows.{rows_start, rows-one, rows_both}

-- the bytes that are read are a part of the plan
pub part_byte : (s : List ℕ) (at most i : ℕ) → i < most → get_or (take (at + most - at) (drop at s)) i 0 ≡ get_or s (at + i) 0
part_byte s at most i h = get_or-take (at + most - at) (drop at s) i 0 (omega arith) ∙ get_or-drop at s i 0

-- a byte whose high bit is not set
pub short-gap : {gap : ℕ} → gap ≤ 127 → gap < 128
short-gap e = omega arith

pub short-start : (s : List ℕ) (b left at t : ℕ) (rows : List ℕ) → at ≤ length s → ShortRead s b left at t rows rows 0 b
short-start s b left at t rows h =
    let x : at + 0 ≡ at = omega arith in
    let y : left - 0 ≡ left = omega arith in
    let z : t + 0 ≡ t = omega arith in
    record {
      list = [];
      many = refl;
      few = omega arith;
      kept = refl;
      grows = omega arith;
      read = λ n g. rw (x, y, z) (rows_start n s b left at t rows h g);
    }

module _ {s : List ℕ} {b left at t : ℕ} {rows₀ rows : List ℕ} {i last : ℕ} (x : ShortRead s b left at t rows₀ rows i last) where
  pub short-turn : {gap row : ℕ} → i < left → at + i < length s → gap ≡ get_or s (at + i) 0 → 1 ≤ gap → gap < 128 → row ≡ last + gap
      → ShortRead s b left at t rows₀ (set rows (t + i) row) (i + 1) (last + gap)
  short-turn {gap} {row} few there e low short is =
      let m = x.many in
      let g = x.grows in
      record {
        list = x.list ++ ((last + gap) ∷ []);
        many = omega (arith, length_more x.list (last + gap));
        few = omega arith;
        kept = sets_more x.list rows₀ t (last + gap) (t + i) x.kept (ap (set rows (t + i)) is) (omega arith);
        grows = omega arith;
        read = λ n h. further n h (x.read n (omega arith));
      }
    where
      further : (n : ℕ) → last + gap ≤ n → RowsRead n s b left at t rows₀ rows (at + i) last (left - i) (t + i)
          → RowsRead n s b left at t rows₀ (set rows (t + i) row) (at + (i + 1)) (last + gap) (left - (i + 1)) (t + (i + 1))
      further n h y =
          let k : at + (i + 1) ≡ at + i + 1 = omega arith in
          let o : left - (i + 1) ≡ left - i - 1 = omega arith in
          let u : t + (i + 1) ≡ t + i + 1 = omega arith in
          let found = field_is 1 (n - last) s (at + i) (one-group s (at + i) there e short) low (omega arith) in
          rw (k, o, u) (rows_both y (rows-one n s last (left - i) (at + i) (t + i) rows (omega arith) y.high found
          (ap (set rows (t + i)) is)))

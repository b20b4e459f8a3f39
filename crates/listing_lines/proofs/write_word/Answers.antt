-- Proves that `write_word` writes all letters: what stands before and behind them stays, as if they were stored one by one.
-- Assumes nothing.
use Rattle.std.proofs.Common.{◌≡◌, ℕ, ◌+◌, ◌-◌, ◌≤◌, List, ◌++◌, length, take, drop, refl, sym, ◌∙◌, append_assoc, arith}
use Rattle.std.proofs.lemmas.List.{drop-drop}
use Rattle.std.proofs.lemmas.List.Edits.{sets, sets-eq}
use Rattle.listing_lines.proofs.write_word.Goals as goal

pasted : (word bytes : List ℕ) (at k : ℕ) {part : List ℕ} → at + length word ≤ length bytes → k ≡ length word → part ≡ word
    → take at bytes ++ (part ++ drop k (drop at bytes)) ≡ sets bytes at word
pasted word bytes at k h e f =
    rw (f, e, drop-drop (length word) at bytes) (sym (sets-eq word bytes at h ∙ append_assoc (take at bytes) word _))

pub returns : goal.returns
returns c =
    record {
      place = refl;
      writes = pasted c.args.word.now c.args.bytes.now c.args.at (c.args.at + length c.args.word.now - c.args.at) c.requires (omega arith)
          c.copy_from_slice.ensures.after;
    }

-- Proves the tests of a whole text: its length, line 1, the lines of rows and the end, each tested after those before it pass. The job of a text that
-- passes is what was read.
-- Assumes nothing.
use Rattle.std.proofs.Common.{ℕ, ◌<◌, ◌≤◌, ◌≡◌, sym, ap, ◌∙◌, Bool, true, false, ◌||◌, List, [], ◌∷◌, ltb, length, lt-ltb, le-ltb}
use Rattle.papers.specs.declared.JobHead.{JobHead}
use Rattle.papers.specs.Bounds.{input_bytes, program_columns}
use Rattle.papers.specs.Refusals.{answer, refused, first}
use Rattle.papers.specs.Text.{numbers_at, head_of, head_of_text, text_job, input_over, bad_head, head_over, bad_line, text_after, text_refusals}
use Rattle.job_laws.proofs.Firsts.{first_passes, first-refuses, refused-if, passed-if}
use Rattle.text_laws.proofs.ByWords.{behind-none}
use Rattle.text_words.specs.Words.{LineTo}
use Rattle.refusals.specs.declared.Fault.{Fault}
use Rattle.refusals.specs.declared.Refusal.TheVariants.{BadText, OverProgramSizes}
use Rattle.text_head.specs.Heads.{HeadAt, NoHead}
use Rattle.text_rows.specs.RowsRead.{whole, AllLines, LinesRefuse}
use Rattle.text_reader.specs.Reading.{JobKept, TextRefused}

-- ---- line 1, from its answer

-- the head of a text, and where its line ends
pub record HeadFound (text : List ℕ) (head : JobHead) (next : ℕ) : Type 0 where
  pub is : head_of_text text ≡ record { fine = true; head = head }
  pub ends : LineTo text 0 next

pub told-head : {text : List ℕ} {head : JobHead} {next : ℕ} → HeadAt text [] 0 head next → HeadFound text head next
unfolding head_of_text
told-head {text} h = record { is = ap head_of (sym (behind-none (numbers_at text 1))) ∙ h.is; ends = h.ends }

told-no-head : {text : List ℕ} → NoHead text [] 0 → (head_of_text text).fine ≡ false
unfolding head_of_text
told-no-head {text} h = ap (λ (l : List ℕ). (head_of l).fine) (sym (behind-none (numbers_at text 1))) ∙ h.bad

-- ---- the tests in their order

module _ (text : List ℕ) where
  over-refused : (more : Bool) → (more || ltb input_bytes (length text)) ≡ true
      → first text_refusals (record { text = text; more = more }) ≡ refused (answer 26 0 0)
  unfolding text_refusals
  over-refused more e =
      first-refuses input_over _ (record { text = text; more = more }) (refused-if (more || ltb input_bytes (length text)) _ e)

  module _ (h : length text ≤ input_bytes) where
    to-head : first text_refusals (whole text) ≡ first (bad_head ∷ head_over ∷ bad_line ∷ text_after ∷ []) (whole text)
    unfolding text_refusals
    to-head = first_passes input_over _ (whole text) (passed-if _ _ (le-ltb input_bytes (length text) h))

    head-refused : (head_of_text text).fine ≡ false → first text_refusals (whole text) ≡ refused (answer 25 1 0)
    head-refused f = to-head ∙ first-refuses bad_head _ (whole text) (refused-if _ _ (rw f))

    module _ (f : (head_of_text text).fine ≡ true) where
      to-columns : first text_refusals (whole text) ≡ first (head_over ∷ bad_line ∷ text_after ∷ []) (whole text)
      to-columns = to-head ∙ first_passes bad_head _ (whole text) (passed-if _ _ (rw f))

      columns-refused : program_columns < (head_of_text text).head.n → first text_refusals (whole text) ≡ refused (answer 26 1 0)
      columns-refused l = to-columns ∙ first-refuses head_over _ (whole text) (refused-if _ _ (lt-ltb program_columns (head_of_text text).head.n l))

      to-lines : (head_of_text text).head.n ≤ program_columns → first text_refusals (whole text) ≡ first (bad_line ∷ text_after ∷ []) (whole text)
      to-lines l = to-columns ∙ first_passes head_over _ (whole text) (passed-if _ _ (le-ltb program_columns (head_of_text text).head.n l))

-- ---- what is told of a text

to-told : {text : List ℕ} {head : JobHead} {next : ℕ} → length text ≤ input_bytes → HeadFound text head next → head.n ≤ program_columns
    → first text_refusals (whole text) ≡ first (bad_line ∷ text_after ∷ []) (whole text)
to-told {text} h x l = to-lines text h (rw x.is) (rw x.is l)

module _ {text : List ℕ} {more : Bool} where
  pub told_more : more ≡ true → TextRefused (record { text = text; more = more }) (record { refusal = OverProgramSizes; place = 0 })
  told_more e = record { refuses = over-refused text more (rw e) }

  module _ (m : more ≡ false) where
    pub told-long : input_bytes < length text → TextRefused (record { text = text; more = more }) (record { refusal = OverProgramSizes; place = 0 })
    told-long h = record { refuses = over-refused text more (rw m (lt-ltb input_bytes (length text) h)) }

    module _ (h : length text ≤ input_bytes) where
      pub told-bad-head : NoHead text [] 0 → TextRefused (record { text = text; more = more }) (record { refusal = BadText; place = 1 })
      told-bad-head f = rw m (record { refuses = head-refused text h (told-no-head f) })

      module _ {head : JobHead} {next : ℕ} (x : HeadFound text head next) where
        pub told-columns : program_columns < head.n
            → TextRefused (record { text = text; more = more }) (record { refusal = OverProgramSizes; place = 1 })
        told-columns l = rw m (record { refuses = columns-refused text h (rw x.is) (rw x.is l) })

        module _ (l : head.n ≤ program_columns) where
          pub told-bad-lines : {fault : Fault} → LinesRefuse text fault → TextRefused (record { text = text; more = more }) fault
          told-bad-lines b = rw m (record { refuses = to-told h x l ∙ b.refuses })

          pub told-job : {starts₀ rows₀ starts rows : List ℕ} {count : ℕ} → AllLines text starts₀ rows₀ starts rows count
              → JobKept (record { text = text; more = more }) starts₀ rows₀ starts rows head count
          unfolding text_job
          told-job a =
              rw m (record {
                passes = to-told h x l ∙ a.passes;
                headed = sym (ap (λ q. q.head) x.is);
                counted = a.counted;
                started = a.started;
                kept = a.kept;
              })

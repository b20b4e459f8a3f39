-- Defines the job text that the listing program reads, when it is refused (25, 26), and the listing that the program prints.
-- Assumes nothing.
use Rattle.std.specs.Prelude.{ℕ, zero, suc, ◌+◌, ◌-◌, ◌*◌, ◌/◌, ◌%◌, ◌^◌, ◌<◌, ◌≡◌, ◌⊎◌, Bool, true, false, not, ◌&&◌, ◌||◌, List, [], ◌∷◌, ◌++◌, map, ltb, leb, eqb, length, replicate}
use Rattle.papers.specs.Bounds.{input_bytes, program_columns, program_rows, program_factor_rows, work_length_for, max_digits, default_mark, listing_bytes}
use Rattle.papers.specs.Lists.{◌∈◌, every, up_to, flat, zeros, then_zeros}
use Rattle.papers.specs.Refusals.{answer, passed, refused, Refusal, when, on, of, first, Outcome, outcome, first_fault_among}
use Rattle.papers.specs.Job.{Job, Pattern, pattern}
use Rattle.papers.specs.Fill.{R}
use Rattle.papers.specs.Order.{pops_of, order_of, rooms_of}
use Rattle.papers.specs.Key.{job_with}
use Rattle.papers.specs.Plan.{plan_of}
use Rattle.papers.specs.Analysis.{Lent, Fixed, slice_short, analysis_early, analysis_late, analysed}
use Rattle.papers.specs.declared.Answer.{Answer}
use Rattle.papers.specs.declared.JobHead.{JobHead}

-- the byte that ends a line
abbrev pub newline : ℕ
newline = 10

-- the byte between the numbers of a line
abbrev pub space : ℕ
space = 32

-- the byte of the digit d
abbrev pub digit : ℕ → ℕ
digit d = 48 + d

-- tests whether a byte is a digit
unfoldable pub is_decimal_digit : ℕ → Bool
is_decimal_digit b = leb (digit 0) b && leb b (digit 9)

-- ---- lines

-- a line without its newline, and the text behind it; or no newline is found
pub data Cut : Type 0 where
  line : List ℕ → List ℕ → Cut
  unended : Cut

-- puts the byte b before the first line
unfoldable pub starting_with : ℕ → Cut → Cut
starting_with b (line l rest) = line (b ∷ l) rest
starting_with b unended = unended

-- cuts a text at its first newline
unfoldable pub cut : List ℕ → Cut
cut [] = unended
cut (b ∷ bs) = elim (eqb b newline) [ true ↦ line [] bs | false ↦ starting_with b (cut bs) ]

-- the text behind the first q lines
unfoldable pub after_lines : ℕ → List ℕ → List ℕ
after_lines zero text = text
after_lines (suc q) text = elim (cut (after_lines q text)) [ line l rest ↦ rest | unended ↦ [] ]

-- ---- numbers in decimal

-- the digits of x, with at most f before the last; x of them are enough, so f never runs out
unfoldable pub digits_of : ℕ → ℕ → List ℕ
digits_of zero x = digit (x % 10) ∷ []
digits_of (suc f) x = elim (ltb x 10) [ true ↦ digit x ∷ [] | false ↦ digits_of f (x / 10) ++ (digit (x % 10) ∷ []) ]

-- a number in decimal
unfoldable pub decimal_of : ℕ → List ℕ
decimal_of x = digits_of x x

-- a printed line: a word and numbers, with single spaces between them, and a newline to end it
unfoldable pub printed : List ℕ → List ℕ → List ℕ
printed word [] = word ++ (newline ∷ [])
printed word (x ∷ xs) = word ++ (space ∷ printed (decimal_of x) xs)

-- ---- numbers of a line

-- puts the byte b before the first word
unfoldable pub on_word : ℕ → List (List ℕ) → List (List ℕ)
on_word b [] = (b ∷ []) ∷ []
on_word b (w ∷ ws) = (b ∷ w) ∷ ws

-- the words of a line, with single spaces between
unfoldable pub words_of : List ℕ → List (List ℕ)
words_of [] = [] ∷ []
words_of (b ∷ bs) = elim (eqb b space) [ true ↦ [] ∷ words_of bs | false ↦ on_word b (words_of bs) ]

-- tests whether a word is a decimal: one to 13 digits, and no 0 before others
unfoldable pub is_decimal_number : List ℕ → Bool
is_decimal_number [] = false
is_decimal_number (d ∷ []) = is_decimal_digit d
is_decimal_number (d ∷ e ∷ ds) = every is_decimal_digit (d ∷ e ∷ ds) && not (eqb d (digit 0)) && leb (length (d ∷ e ∷ ds)) max_digits

-- tests whether every word is a decimal
unfoldable pub all_decimal : List (List ℕ) → Bool
all_decimal [] = true
all_decimal (w ∷ ws) = is_decimal_number w && all_decimal ws

-- the value of a number followed by these digits
unfoldable pub value_of : ℕ → List ℕ → ℕ
value_of v [] = v
value_of v (d ∷ ds) = value_of (10 * v + (d - digit 0)) ds

-- the numbers of a line; none if some word is not a decimal
unfoldable pub numbers_of : List ℕ → List ℕ
numbers_of l = let words = words_of l in elim (all_decimal words) [ true ↦ map (value_of 0) words | false ↦ [] ]

-- the numbers of line q, where lines count from 1; none if the line is missing, has no newline, or is not decimals with one space between
unfoldable pub numbers_at : List ℕ → ℕ → List ℕ
numbers_at text q = elim (cut (after_lines (q - 1) text)) [ line l rest ↦ numbers_of l | unended ↦ [] ]

-- line q consists of these numbers: decimals of up to 13 digits with single spaces between them, ended by a newline
pub record Spelt (text : List ℕ) (q x : ℕ) (xs : List ℕ) : Type 0 where
  pub rest : List ℕ
  pub line : after_lines (q - 1) text ≡ printed (decimal_of x) xs ++ rest
  pub short : (y : ℕ) → y ∈ (x ∷ xs) → y < 10 ^ max_digits

-- ---- the first line: n and limit, or n, limit and mark

-- what line 1 says, and whether it is well formed
pub record Head : Type 0 where
  pub fine : Bool
  pub head : JobHead

-- no good line 1: its n is 0, and line 1 has refused before anybody uses it
abbrev pub no_head : Head
no_head = record { fine = false; head = record { n = 0; mark = 0; limit = 0 } }

-- what the numbers of line 1 say: n and limit, or n, limit and mark
unfoldable pub head_of : List ℕ → Head
head_of [] = no_head
head_of (n ∷ []) = no_head
head_of (n ∷ limit ∷ []) = record { fine = true; head = record { n = n; mark = default_mark; limit = limit } }
head_of (n ∷ limit ∷ mark ∷ []) = record { fine = true; head = record { n = n; mark = mark; limit = limit } }
head_of (n ∷ limit ∷ mark ∷ x ∷ xs) = no_head

-- line 1 consists of n and limit, or of n, limit and mark
pub data HeadLine (text : List ℕ) : JobHead → Type 0 where
  two : {n limit : ℕ} → Spelt text 1 n (limit ∷ []) → HeadLine text (record { n = n; mark = default_mark; limit = limit })
  three : {n limit mark : ℕ} → Spelt text 1 n (limit ∷ mark ∷ []) → HeadLine text (record { n = n; mark = mark; limit = limit })

-- ---- a row line: how many rows, then the rows

-- the rows of a row line: its numbers after the first
unfoldable pub rows_of_line : List ℕ → List ℕ
rows_of_line [] = []
rows_of_line (count ∷ rows) = rows

-- tests whether the first number counts the others
unfoldable pub is_row_line : List ℕ → Bool
is_row_line [] = false
is_row_line (count ∷ rows) = eqb count (length rows)

-- line q consists of a count and this many rows
abbrev pub RowLine : List ℕ → ℕ → List ℕ → Type 0
RowLine text q rows = Spelt text q (length rows) rows

-- the lines from line q on consist of these lists
abbrev pub RowLines : List ℕ → ℕ → List (List ℕ) → Type 0
RowLines text q [] = Unit {0}
RowLines text q (l ∷ ls) = RowLine text q l × RowLines text (suc q) ls

-- ---- the job of a text: the rows of column j are in line j + 1

-- what line 1 of a text says
unfoldable pub head_of_text : List ℕ → Head
head_of_text text = head_of (numbers_at text 1)

-- the rows of the first n columns
unfoldable pub text_lists : List ℕ → ℕ → List (List ℕ)
text_lists text n = map (λ j. rows_of_line (numbers_at text (suc j))) (up_to n)

-- the job of a text without faults
unfoldable pub text_job : List ℕ → Job
text_job text = let head = (head_of_text text).head in job_with head (text_lists text head.n)

-- ---- 25 and 26, by the first line at fault

-- the bytes read from standard input, and whether more followed
pub record Input : Type 0 where
  pub text : List ℕ
  pub more : Bool

-- 26 at place 0: there is more input than the program reads
abbrev pub input_over : Refusal Input
input_over =
    when (λ input. input.more || ltb input_bytes (length input.text)) (λ input. (input.more ≡ true) ⊎ (input_bytes < length input.text))
    (λ input. answer 26 0 0)

-- 25 at line 1: it consists of neither n and limit nor n, limit and mark
abbrev pub bad_head : Refusal Input
bad_head =
    when (λ input. not (head_of_text input.text).fine) (λ input. (head : JobHead) → ¬ HeadLine input.text head) (λ input. answer 25 1 0)

-- a refusal of a text whose line 1 is good, by the n of that line
abbrev pub by_head : (ℕ → Refusal (List ℕ)) → Refusal Input
by_head r = record {
  test = λ input. (r (head_of_text input.text).head.n).test input.text;
  gives = λ input a. (head : JobHead) × HeadLine input.text head × (r head.n).gives input.text a;
}

-- 26 at line 1: there are more columns than the program takes
abbrev pub head_over : Refusal Input
head_over = by_head (λ n. when (λ text. ltb program_columns n) (λ text. program_columns < n) (λ text. answer 26 1 0))

-- the fault of column j's line: 25 if it is missing or bad text, then 26 if the lines so far have more pattern rows than the program takes;
-- 0 if it has none
unfoldable pub line_fault : List ℕ → ℕ → ℕ
line_fault text j =
    elim (is_row_line (numbers_at text (suc j))) [
      | false ↦ 25
      | true ↦ elim (ltb program_rows (length (flat (text_lists text j))))
          [ true ↦ 26 | false ↦ 0 ]
    ]

-- the faults of column j's line: 25 bad text, then 26 too many pattern rows in the lines so far
pub data FaultyLine (text : List ℕ) (j : ℕ) : ℕ → Type 0 where
  bad-line : ((rows : List ℕ) → ¬ RowLine text (suc j) rows) → FaultyLine text j 25
  rows-over : (lists : List (List ℕ)) → length lists ≡ j → RowLines text 2 lists → program_rows < length (flat lists) → FaultyLine text j 26

-- 25 and 26 of the row lines: the first at fault decides; column j's is line j + 1
abbrev pub bad_line : Refusal Input
bad_line = by_head (λ n. first_fault_among (λ text. n) line_fault FaultyLine (λ text number j. answer number (suc j) 0))

-- 25 at line n + 2: text follows the last row line
abbrev pub text_after : Refusal Input
text_after =
    by_head (λ n. when (λ text. ltb 0 (length (after_lines (suc n) text))) (λ text. 0 < length (after_lines (suc n) text)) (λ text. answer 25 (n + 2) 0))

-- the refusals of a text: 26 at place 0, 25 and 26 of line 1, those of the row lines, 25 at the end
unfoldable pub text_refusals : List (Refusal Input)
text_refusals = input_over ∷ bad_head ∷ head_over ∷ bad_line ∷ text_after ∷ []

-- ---- what is printed

-- the word `plan`
abbrev pub word_plan : List ℕ
word_plan = 112 ∷ 108 ∷ 97 ∷ 110 ∷ []

-- the word `refused`
abbrev pub word_refused : List ℕ
word_refused = 114 ∷ 101 ∷ 102 ∷ 117 ∷ 115 ∷ 101 ∷ 100 ∷ []

-- the line of a refusal: `refused`, number, place, count
unfoldable pub refusal_line : Answer → List ℕ
refusal_line a = printed word_refused (a.number ∷ a.place ∷ a.count ∷ [])

-- the lines of the steps: each with its column, its pops, its room in use and the rows of R. There is a room for each step, so neither list
-- ends before the other.
unfoldable pub step_lines : ℕ → Pattern → List ℕ → List ℕ → List ℕ
step_lines n A [] rooms = []
step_lines n A (j ∷ js) [] = []
step_lines n A (j ∷ js) (room ∷ rooms) = printed (decimal_of j) (pops_of n A j ∷ room ∷ R A j) ++ step_lines n A js rooms

-- the listing of a job: a header with n, mark and peak, then the lines of its steps
unfoldable pub listing_of : Job → ℕ → List ℕ
listing_of job peak =
    let order = order_of job.mark job.n (pattern job) in
    printed word_plan (job.n ∷ job.mark ∷ peak ∷ []) ++ step_lines job.n (pattern job) order (rooms_of job.n (pattern job) order)

-- the program's buffers, all zero
unfoldable pub buffers : Lent
buffers =
    record {
      parents = replicate program_columns 0;
      order = replicate program_columns 0;
      pops = replicate program_columns 0;
      factor_starts = replicate (program_columns + 1) 0;
      factor_rows = replicate program_factor_rows 0;
      work = replicate (work_length_for program_columns) 0;
    }

-- what is printed of a job: its listing, or the line of its refusal
unfoldable pub job_printed : Job → Answer → List ℕ
job_printed job a = elim a.number [ zero ↦ listing_of job a.count | suc k ↦ refusal_line a ]

-- what the program prints: the line of the text's refusal, or what is printed of its job
unfoldable pub program_prints : Input → List ℕ
program_prints input =
    elim (first text_refusals input) [
      | passed ↦ job_printed (text_job input.text) (analysed (text_job input.text) buffers).answered
      | refused a ↦
          refusal_line a
    ]

-- the refusals of the program: those of the text, then those of its job's analysis in the program's buffers
abbrev pub program_refusals : List (Refusal Input)
program_refusals = text_refusals ++ of (λ input. record { job = text_job input.text; lent = buffers }) (analysis_early ++ analysis_late)

-- what is printed if nothing is refused
abbrev pub program_listing : Input → List ℕ
program_listing input = let job = text_job input.text in listing_of job (plan_of job).peak

-- ---- the listing into a lent slice: 7 if the slice is shorter than any listing may need. If the text or its job is refused, that line is
-- printed: the answer is 0, and the count is the bytes of the line.

-- the input of the listing: a text, and the slice for what is printed
pub record ListingCall : Type 0 where
  pub input : Input
  pub bytes : List ℕ

-- the fixed length of a listing's slice
abbrev pub listing_lengths : ListingCall → List Fixed
listing_lengths call = record { long = length call.bytes; least = listing_bytes } ∷ []

-- the early refusals of the listing: 7 alone; there is no late one
unfoldable pub listing_early : List (Refusal ListingCall)
listing_early = on listing_lengths slice_short ∷ []

-- a listing is done: the slice holds what is printed, then zeros, and the count is the number of these bytes
unfoldable pub listing_done : ListingCall → Outcome (List ℕ)
listing_done call = let out = program_prints call.input in record { answered = answer 0 0 (length out); lent = then_zeros out call.bytes }

-- the whole outcome of a listing
unfoldable pub listed : Input → List ℕ → Outcome (List ℕ)
listed input bytes = outcome listing_early [] listing_done zeros (record { input = input; bytes = bytes }) bytes

-- The rows of an accepted text by their kinds: its chart's moves, holds and latches, each with its condition where it lies in the text.
use mathlib.Core.List.{List, [], ◌∷◌, ◌++◌}
use mathlib.Core.Path.{◌≡◌, refl, ap, ◌∙◌}
use Prim.Native.Nat.{ℕ, ◌+◌, ◌*◌, ◌<◌, ◌≤◌}
use native.Mathlib.Omega.{arith}
use lib.ListN.{length, get_or, take}
use Rattle.text.specs.Words.{word_of}
use Rattle.line.specs.declared.Row.{Row}
use Rattle.line.specs.Chart.{Chart, Move, Hold, Latch}
use Rattle.line.specs.Kinds.{steps, outputs}
use Rattle.line.specs.Write.{Line, move', hold', latch', end', move_start, hold_start, write_line, write_lines, lines, total, head_lines, lines_of, write}
use Rattle.line.specs.Rules.{longest_text}
use Rattle.line.specs.Words.{place_word, item_word, row_of, hold_of_word, latch_of_word}
use Rattle.chart.specs.WellFormed.{WellFormed}
use Rattle.chart.specs.Reading.{accepted, read_chart}
use Rattle.chart.specs.Rows.{rows_of, move_word, hold_word, latch_word, words_by}
use Rattle.chart.specs.Table.{no_hold, no_latch}
use Rattle.chart.proofs.Lines.Several.{lines_append}
use Rattle.chart.proofs.Fold.Round.{accepted-only}
use Rattle.chart.proofs.Rows.Low.{every_at}
use Rattle.chart.proofs.Rows.Runs.{rows_at, skip, run_count, run-text, run-word}
use Rattle.chart.proofs.Rows.Lined.{rows_accepted}
use Rattle.chart.proofs.Rows.Places.{Lies, lies, last-place, last-part}
use Rattle.chart.proofs.Rows.Packed.{ItemParts, item_parts, latch-back}

module _ (t : List ℕ) (c : Chart) (q : read_chart t ≡ accepted c) where
  abbrev ms : List Move
  ms = c.body.moves

  abbrev hs : List Hold
  hs = c.body.holds

  abbrev xs : List Latch
  xs = c.body.latches

  pub keeps : WellFormed c
  keeps = (accepted-only t c q).0

  short : length t ≤ longest_text
  short = rw (accepted-only t c q).1 keeps.short

  -- The lines before and after each run

  abbrev after_latches : List Line
  after_latches = end' (total c) ∷ []

  abbrev after_holds : List Line
  after_holds = lines latch' xs after_latches

  abbrev after_moves : List Line
  after_moves = lines hold' hs after_holds

  abbrev before_holds : List Line
  before_holds = head_lines c.head (lines move' ms [])

  abbrev before_latches : List Line
  before_latches = head_lines c.head (lines move' ms (lines hold' hs []))

  hold-run : lines_of c ≡ before_holds ++ lines hold' hs after_holds
  unfolding lines_of
  hold-run = ap (head_lines c.head) (lines_append move' ms [] after_moves)

  latch-run : lines_of c ≡ before_latches ++ lines latch' xs after_latches
  unfolding lines_of
  latch-run =
      ap (λ (r : List Line). head_lines c.head (lines move' ms r)) (lines_append hold' hs [] after_holds)
      ∙ ap (head_lines c.head) (lines_append move' ms (lines hold' hs []) after_holds)

  -- Moves: three words each

  no_moves-after : (a : ℕ) → words_by move_word (rows_at a after_moves) ≡ []
  unfolding words_by rows_at
  no_moves-after = skip move_word hold' (λ x a n. refl) after_holds (skip move_word latch' (λ x a n. refl) after_latches (λ a. refl) xs) hs

  pub move_count : length (words_by move_word (rows_of t)) ≡ 3 * length ms
  unfolding lines_of words_by rows_at
  move_count = ap (λ (r : List Row). length (words_by move_word r)) (rows_accepted t c q) ∙ run_count move_word move' 3 (λ x a n. refl) (head_lines c.head []) after_moves refl no_moves-after ms

  module _ (i : ℕ) (d : Move) (h : i < length ms) where
    abbrev move : Move
    move = get_or ms i d

    -- the text before the move's line, and before its condition
    abbrev move_front : List ℕ
    move_front = write_lines (head_lines c.head (lines move' (take i ms) []))

    abbrev move_place : ℕ
    move_place = place_word (length (move_front ++ move_start move)) (length move.condition)

    move_word_lem : (j : ℕ) → j < 3 → get_or (words_by move_word (rows_of t)) (3 * i + j) 0 ≡ get_or (move_word (row_of (length move_front) (length (write_line (move' move))) (move' move))) j 0
    unfolding lines_of words_by rows_at
    move_word_lem j l =
        ap (λ (r : List Row). get_or (words_by move_word r) (3 * i + j) 0) (rows_accepted t c q)
        ∙ run-word move_word move' 3 (λ x a n. refl) (head_lines c.head []) after_moves refl no_moves-after ms i d h j l

    pub move_before : get_or (words_by move_word (rows_of t)) (3 * i) 0 ≡ word_of move.before
    move_before = let e : 3 * i ≡ 3 * i + 0 = omega arith in rw e (move_word_lem 0 (omega arith))

    pub move_after : get_or (words_by move_word (rows_of t)) (3 * i + 1) 0 ≡ word_of move.after
    move_after = move_word_lem 1 (omega arith)

    pub move_place_lem : get_or (words_by move_word (rows_of t)) (3 * i + 2) 0 ≡ move_place
    unfolding write_line
    move_place_lem = move_word_lem 2 (omega arith) ∙ last-place move_front (move_start move) move.condition

    pub move_lies : Lies t move.condition move_place
    unfolding write lines_of write_line words_by rows_at
    move_lies =
        let few = (every_at d keeps.moves i h).condition.short in
        lies t (move_front ++ move_start move) move.condition _ short (omega arith)
        ((accepted-only t c q).1 ∙ run-text move_word move' 3 (λ x a n. refl) (head_lines c.head []) after_moves refl no_moves-after ms i d h ∙ last-part move_front (move_start move) move.condition _)

  -- Holds: one word each

  no_holds-after : (a : ℕ) → words_by hold_word (rows_at a after_holds) ≡ []
  unfolding words_by rows_at
  no_holds-after = skip hold_word latch' (λ x a n. refl) after_latches (λ a. refl) xs

  no_holds-before : words_by hold_word (rows_at 0 before_holds) ≡ []
  unfolding words_by rows_at
  no_holds-before = skip hold_word move' (λ x a n. refl) [] (λ a. refl) ms _

  pub hold_count : length (words_by hold_word (rows_of t)) ≡ 1 * length hs
  hold_count =
      ap (λ (r : List Row). length (words_by hold_word r)) (rows_accepted t c q ∙ ap (rows_at 0) hold-run)
      ∙ run_count hold_word hold' 1 (λ x a n. refl) before_holds after_holds no_holds-before no_holds-after hs

  module _ (i : ℕ) (h : i < length hs) where
    abbrev hold : Hold
    hold = get_or hs i no_hold

    abbrev hold_front : List ℕ
    hold_front = write_lines (before_holds ++ lines hold' (take i hs) [])

    abbrev hold_place : ℕ
    hold_place = place_word (length (hold_front ++ hold_start hold)) (length hold.condition)

    pub hold-word : get_or (words_by hold_word (rows_of t)) i 0 ≡ item_word hold.step hold.output + 1024 * hold_place
    unfolding write_line
    hold-word =
        let e : i ≡ 1 * i + 0 = omega arith in
        ap (λ (r : List Row). get_or (words_by hold_word r) i 0) (rows_accepted t c q ∙ ap (rows_at 0) hold-run)
        ∙ ap (λ (n : ℕ). get_or (words_by hold_word (rows_at 0 (before_holds ++ lines hold' hs after_holds))) n 0) e
        ∙ run-word hold_word hold' 1 (λ x a n. refl) before_holds after_holds no_holds-before no_holds-after hs i no_hold h 0 (omega arith)
        ∙ ap (λ (p : ℕ). item_word hold.step hold.output + 1024 * p) (last-place hold_front (hold_start hold) hold.condition)

    pub hold_lies : Lies t hold.condition hold_place
    unfolding write write_line
    hold_lies =
        let few = (every_at no_hold keeps.holds i h).condition.short in
        lies t (hold_front ++ hold_start hold) hold.condition _ short (omega arith)
        ((accepted-only t c q).1 ∙ ap write_lines hold-run ∙ run-text hold_word hold' 1 (λ x a n. refl) before_holds after_holds no_holds-before no_holds-after hs i no_hold h
        ∙ last-part hold_front (hold_start hold) hold.condition _)

    pub hold_parts : ItemParts hold.step hold.output hold_place (item_word hold.step hold.output + 1024 * hold_place)
    hold_parts =
        let r = every_at no_hold keeps.holds i h in
        let u = r.step in let v = r.output in
        let n = (keeps.numbers steps).1 in let o = (keeps.numbers outputs).1 in
        item_parts hold.step hold.output hold_place (omega arith) (omega arith)

    pub hold_row : hold_of_word t (get_or (words_by hold_word (rows_of t)) i 0) ≡ hold
    hold_row = let p = hold_parts in rw (hold-word, p.step, p.output, p.rest, hold_lies.is)

  -- Latches: one word each

  no_latches-before : words_by latch_word (rows_at 0 before_latches) ≡ []
  unfolding words_by rows_at
  no_latches-before = skip latch_word move' (λ x a n. refl) (lines hold' hs []) (skip latch_word hold' (λ x a n. refl) [] (λ a. refl) hs) ms _

  pub latch_count : length (words_by latch_word (rows_of t)) ≡ 1 * length xs
  unfolding words_by rows_at
  latch_count =
      ap (λ (r : List Row). length (words_by latch_word r)) (rows_accepted t c q ∙ ap (rows_at 0) latch-run)
      ∙ run_count latch_word latch' 1 (λ x a n. refl) before_latches after_latches no_latches-before (λ a. refl) xs

  pub latch_row : (i : ℕ) → i < length xs → latch_of_word (get_or (words_by latch_word (rows_of t)) i 0) ≡ get_or xs i no_latch
  unfolding words_by rows_at
  latch_row i h =
      let r = every_at no_latch keeps.latches i h in
      let u = r.step in let v = r.output in
      let n = (keeps.numbers steps).1 in let o = (keeps.numbers outputs).1 in
      let e : i ≡ 1 * i + 0 = omega arith in
      let w = ap (λ (r : List Row). get_or (words_by latch_word r) i 0) (rows_accepted t c q ∙ ap (rows_at 0) latch-run)
      ∙ ap (λ (n : ℕ). get_or (words_by latch_word (rows_at 0 (before_latches ++ lines latch' xs after_latches))) n 0) e
      ∙ run-word latch_word latch' 1 (λ x a n. refl) before_latches after_latches no_latches-before (λ a. refl) xs i no_latch h 0 (omega arith) in
      rw w (latch-back (get_or xs i no_latch) (omega arith) (omega arith))

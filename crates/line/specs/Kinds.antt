-- The kinds of lines and their order. 01, The chart text: "Key=value lines in this fixed order".
use Rattle.std.specs.Prelude.{Bool, cond, ◌&&◌, List, ℕ, Option, Some, None, ◌+◌, eqb, leb, ltb}
use Rattle.text.specs.Keys.{bytes}
use Rattle.line.specs.declared.Kind.{Kind}
use Rattle.line.specs.declared.Kind.TheVariants.{Version, Steps, Initial, Inputs, Outputs, Limit, Move, Hold, Latch, End, Unknown}

-- the numbers of the head, each with a line of its own
pub data HeadNumber : Type 0 where
  version steps inputs outputs limit : HeadNumber

-- such a line: its key, and from where to where its number goes
pub record NumberLine : Type 0 where
  pub key : List ℕ
  pub from : ℕ
  pub to : ℕ

-- "N 1 to 30, M and K 0 to 32, L 1 to 1,024"; 3 "also a `chart=` number but 1"
abbrev pub number_line : HeadNumber → NumberLine
number_line version = record { key = bytes "chart="; from = 1; to = 1 }
number_line steps = record { key = bytes "steps="; from = 1; to = 30 }
number_line inputs = record { key = bytes "inputs="; from = 0; to = 32 }
number_line outputs = record { key = bytes "outputs="; from = 0; to = 32 }
number_line limit = record { key = bytes "limit="; from = 1; to = 1024 }

-- their lines' kinds
abbrev pub number_kind : HeadNumber → Kind
number_kind version = Version
number_kind steps = Steps
number_kind inputs = Inputs
number_kind outputs = Outputs
number_kind limit = Limit

-- The place of a kind in the order, and 0 for none: no line yet. `Unknown` stands for bytes of no kind. 7 is for `counters`, the last line of the head, and 11 for
-- `count`, after `latch`: no line of version 1 is there.
abbrev pub rank : Option Kind → ℕ
rank None = 0
rank (Some Version) = 1
rank (Some Steps) = 2
rank (Some Initial) = 3
rank (Some Inputs) = 4
rank (Some Outputs) = 5
rank (Some Limit) = 6
rank (Some Move) = 8
rank (Some Hold) = 9
rank (Some Latch) = 10
rank (Some End) = 12
rank (Some Unknown) = 13

-- "in this fixed order", by ranks: the lines of the head stand each right after the one before it; after the head kinds never fall, and nothing follows
-- `end`
abbrev pub in_order : ℕ → ℕ → Bool
in_order p k =
    cond (ltb k (rank (Some Move))) (eqb k (p + 1)) (leb (rank (Some Limit)) p && leb p k && leb k (rank (Some End)) && ltb p (rank (Some End)))

abbrev pub follows : Option Kind → Option Kind → Bool
follows p k = in_order (rank p) (rank k)

abbrev pub is_end : Option Kind → Bool
is_end k = eqb (rank k) (rank (Some End))

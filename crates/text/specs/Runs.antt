-- A way of the code: how a number is read, as many digits as may be, after which no digit stands. `number_sound` and `number_complete` (proofs/Promises.antt) say that it reads what the rule of Numbers.antt says.
use Rattle.std.specs.Prelude.{cond, Option, Some, None, ℕ, zero, suc, ◌+◌, ◌-◌, ◌*◌, eqb, leb}
use Rattle.text.specs.Bytes.{Bytes, is_digit}
use Rattle.text.specs.Words.{largest_word}

-- A number that was read and the place after it, or none.
abbrev pub Found : Type 0
Found = Option (ℕ × ℕ)

-- at most k digits from a place on, where v was read before them: the value and the place after them
unfoldable pub run : ℕ → Bytes → ℕ → ℕ → ℕ × ℕ
run zero b a v = (v, a)
run (suc k) b a v = cond (is_digit (b a)) (run k b (a + 1) (v * 10 + (b a - 48))) (v, a)

unfoldable pub ended : Bytes → ℕ × ℕ → Found
ended b r = cond (is_digit (b r.1)) None (Some r)

-- a 0 stands alone; any other first digit begins at most k
unfoldable pub number : ℕ → Bytes → ℕ → Found
number k b a = cond (is_digit (b a)) (ended b (run (cond (eqb (b a) 48) 1 k) b a 0)) None

-- a number that is at most m
unfoldable pub at_most : ℕ → Found → Found
at_most m (Some (v, e)) = cond (leb v m) (Some (v, e)) None
at_most m None = None

-- 01, Rig log: "at most 4,294,967,295"
unfoldable pub word : Bytes → ℕ → Found
word b a = at_most largest_word (number 10 b a)

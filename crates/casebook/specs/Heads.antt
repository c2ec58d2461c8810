-- What the lines that begin cases say.
use Rattle.std.specs.Prelude.{Some, List, ◌≡◌, ℕ, cond, ◌&&◌, ◌+◌, ◌<◌, ◌≤◌, leb, length, slice_range}
use Rattle.text.specs.Bytes.{byte_at}
use Rattle.text.specs.Numbers.{word}
use Rattle.casebook.specs.declared.Head.{Head}

-- the line `case=NAME:N:M` whose name ends where h says: N is a number behind that place, and M behind N, with one byte between
pub record IsHead (s : List ℕ) (h : Head) : Type 0 where
  pub middle : ℕ
  pub last : ℕ
  pub first : word (byte_at s) (h.name + 1) ≡ Some (h.first, middle)
  pub second : word (byte_at s) (middle + 1) ≡ Some (h.second, last)
  pub ends : h.end ≡ last + 1

-- a number v from a on, and e is the place after the byte that follows it in the text
pub record IsField (s : List ℕ) (a v e : ℕ) : Type 0 where
  pub last : ℕ
  pub number : word (byte_at s) a ≡ Some (v, last)
  pub ends : e ≡ last + 1
  pub onward : a < e
  pub within : e ≤ length s

-- the n bytes x from a on, and e is the place after the byte that follows them in the text
pub record IsPart (s : List ℕ) (a n : ℕ) (x : List ℕ) (e : ℕ) : Type 0 where
  pub bytes : x ≡ slice_range s a (a + n)
  pub ends : e ≡ a + n + 1
  pub within : e ≤ length s

-- the bytes from a place up to another, or all of the text where it has no such part
abbrev pub part_or_all : List ℕ → ℕ → ℕ → List ℕ
part_or_all s a b = cond (leb a b && leb b (length s)) (slice_range s a b) s

use Prim.Native.Nat.{ℕ, ◌+◌, ◌≤◌}
use mathlib.Core.List.{List}
use mathlib.Core.Path.{◌≡◌}
use native.Mathlib.Omega.{arith}
use Rattle.sfc.specs.declared.Place.{Place}
use Rattle.sfc.specs.Import.{map_in, names_by, place_in}
use Rattle.sfc.proofs.Promises.{name-inside}
use Rattle.host.proofs.grafcet_name.Goals as goal

-- a name's place fits a word, whichever name was asked for
name_low : (text : List ℕ) (kind k : ℕ) (p : Place) → p ≡ place_in (names_by (map_in text) kind) k → p.start + p.length ≤ 16384
name_low text kind k p e = rw e (name-inside text kind k).low

pub overflow_cast-place : goal.overflow_cast-place
overflow_cast-place c = let l = name_low _ _ _ _ c.name-place.ensures in omega arith

pub overflow_cast-place-2 : goal.overflow_cast-place-2
overflow_cast-place-2 c = let l = name_low _ _ _ _ c.name-place.ensures in omega arith

-- A way of the code: the entry of a line, computed. What it says is fixed by `line_read` (proofs/Promises.antt): the entry that the line says
-- (Forms.antt), and none where it says none.
use Rattle.std.specs.Prelude.{cond, List, ℕ, ◌+◌, eqb, length, Option, Some, None, option_map}
use Rattle.text.specs.Bytes.{byte_at}
use Rattle.text.specs.Keys.{bytes, begins, colon}
use Rattle.text.specs.Numbers.{Found, word}
use Rattle.rig_log.specs.declared.Entry.{Entry}
use Rattle.rig_log.specs.declared.Entry.TheVariants.{Go, Event}

-- a number that was read, where it goes to the line's end
unfoldable pub last : List ℕ → Found → Option ℕ
last w (Some (v, k)) = cond (eqb k (length w)) (Some v) None
last w None = None

-- the entry of an `ev` line, by its first number
unfoldable pub event_entry : List ℕ → Found → Option Entry
event_entry w (Some (e, k)) = cond (eqb (byte_at w k) colon) (option_map (λ v. Event e v) (last w (word (byte_at w) (k + 1)))) None
event_entry w None = None

unfoldable pub entry_of : List ℕ → Option Entry
entry_of w =
    cond (begins (bytes "go=") w) (option_map (λ v. Go v) (last w (word (byte_at w) 3)))
    (cond (begins (bytes "ev=") w) (event_entry w (word (byte_at w) 3))
    None)

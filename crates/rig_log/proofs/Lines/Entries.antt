-- A line is read as what it says: what is read was written, and what is written is read.
use mathlib.Core.Bool.{Bool, true, false, cond}
use mathlib.Core.List.{List, [], ◌∷◌, ◌++◌, append-nil}
use mathlib.Core.Path.{◌≡◌, refl, sym, ap, ◌∙◌}
use Prim.Native.Nat.{ℕ, ◌+◌, ◌≤◌}
use native.Mathlib.Omega.{arith}
use borrow.Author.Tests.{eq-eqb, eqb-true}
use lib.Dec.{eqb}
use Rattle.std.specs.Prelude.{Option, Some, None, option_map}
use lib.ListN.{length, drop, length-append}
use lib.Seq.{drop-length}
use Rattle.text.specs.Bytes.{byte_at}
use Rattle.text.specs.Decimal.{decimal}
use Rattle.text.specs.Keys.{bytes}
use Rattle.text.specs.Numbers.{Found, word}
use Rattle.text.proofs.Decimal.{byte_head, drop_past, cut}
use Rattle.text.specs.Keys.{begins}
use Rattle.text.specs.Keys.{colon}
use Rattle.text.proofs.Beginning.{begins_sound}
use Rattle.rig_log.specs.declared.Entry.{Entry}
use Rattle.rig_log.specs.declared.Entry.TheVariants.{Go, Event}
use Rattle.rig_log.specs.Entries.{last, event_entry, entry_of}
use Rattle.rig_log.specs.Forms.{Says, go, event}
use Rattle.rig_log.proofs.Lines.Words.{Word, word_sound, word_complete}

-- What is read was written

-- a number that goes to the line's end: the rest of the line, and how large it is
record Last (w : List ℕ) (a v : ℕ) : Type 0 where
  pub is : drop a w ≡ decimal v
  pub most : v ≤ 4294967295

-- an entry that the line says, or none
data Told (w : List ℕ) : Option Entry → Type 0 where
  told : (e : Entry) → Says w e → Told w (Some e)
  untold : Told w None

module _ (w : List ℕ) where
  told_else : (t : Bool) {x y : Option Entry} → (t ≡ true → Told w x) → Told w y → Told w (cond t x y)
  told_else true f g = f refl
  told_else false f g = g

  last_sound : (a v : ℕ) → last w (word (byte_at w) a) ≡ Some v → Last w a v
  unfolding last
  last_sound a v q = from (word (byte_at w) a) refl q
    where
      at_end : (u k : ℕ) → word (byte_at w) a ≡ Some (u, k) → (t : Bool) → eqb k (length w) ≡ t → cond t (Some u) None ≡ Some v → Last w a v
      at_end u k p true h r =
          let s = word_sound w a k u p in
          let x : u ≡ v = cc in
          let y = eqb-true k (length w) h in
          rw (← x) (record { is = s.is ∙ rw (y, drop-length, append-nil); most = s.most })
      at_end u k p false h r = absurd (cc)

      from : (x : Found) → word (byte_at w) a ≡ x → last w x ≡ Some v → Last w a v
      from (Some (u, k)) p r = at_end u k p (eqb k (length w)) refl r
      from None p r = absurd (cc)

  told_go : begins (bytes "go=") w ≡ true → Told w (option_map (λ v. Go v) (last w (word (byte_at w) 3)))
  told_go b = number (last w (word (byte_at w) 3)) refl
    where
      number : (x : Option ℕ) → last w (word (byte_at w) 3) ≡ x → Told w (option_map (λ v. Go v) x)
      number (Some v) q = let s = last_sound 3 v q in told (Go v) (go v s.most (begins_sound (bytes "go=") w b ∙ rw s.is))
      number None q = untold

  told_event : begins (bytes "ev=") w ≡ true → Told w (event_entry w (word (byte_at w) 3))
  unfolding event_entry
  told_event b = elapsed (word (byte_at w) 3) refl
    where
      inputs : (e k : ℕ) → Word w 3 k e → byte_at w k ≡ colon → (x : Option ℕ) → last w (word (byte_at w) (k + 1)) ≡ x → Told w (option_map (λ v. Event e v) x)
      inputs e k s c (Some v) q =
          let t = last_sound (k + 1) v q in
          told (Event e v) (event e v s.most t.most (begins_sound (bytes "ev=") w b ∙ rw (s.is, cut w k colon c (omega arith), t.is)))
      inputs e k s c None q = untold

      elapsed : (x : Found) → word (byte_at w) 3 ≡ x → Told w (event_entry w x)
      elapsed (Some (e, k)) q =
          told_else (eqb (byte_at w k) colon) (λ z. inputs e k (word_sound w 3 k e q) (eqb-true (byte_at w k) colon z) (last w (word (byte_at w) (k + 1))) refl) untold
      elapsed None q = untold

  told_line : Told w (entry_of w)
  unfolding entry_of
  told_line = told_else (begins (bytes "go=") w) told_go (told_else (begins (bytes "ev=") w) told_event untold)

  pub entry_written : (e : Entry) → entry_of w ≡ Some e → Says w e
  entry_written e q = from told_line q
    where
      from : {x : Option Entry} → Told w x → x ≡ Some e → Says w e
      from (told x s) z = let y : x ≡ e = cc in rw (← y) s
      from untold z = let y : ◌≡◌ {A = ℕ} 0 1 = cc in absurd (omega arith)

  pub entry_none : ((e : Entry) → Says w e → ⊥) → entry_of w ≡ None
  entry_none n = from told_line
    where
      from : {x : Option Entry} → Told w x → x ≡ None
      from (told x s) = absurd (n x s)
      from untold = refl

-- What is written is read

go-read : (v : ℕ) → v ≤ 4294967295 → entry_of (bytes "go=" ++ decimal v) ≡ Some (Go v)
unfolding entry_of begins last
go-read v l =
    let w : List ℕ = bytes "go=" ++ decimal v in
    let n = word_complete w 3 v [] l (sym (append-nil (decimal v))) refl in
    rw (n, eq-eqb (3 + length (decimal v)) (length w) (omega arith))

event-read : (e v : ℕ) → e ≤ 4294967295 → v ≤ 4294967295 → entry_of (bytes "ev=" ++ (decimal e ++ (bytes ":" ++ decimal v))) ≡ Some (Event e v)
unfolding entry_of begins event_entry last
event-read e v h l =
    let r : List ℕ = colon ∷ decimal v in
    let w : List ℕ = bytes "ev=" ++ (decimal e ++ r) in
    let k : ℕ = 3 + length (decimal e) in
    let a = word_complete w 3 e r h refl refl in
    let d : drop k w ≡ r = drop_past w 3 (decimal e) r refl in
    let b : byte_at w k ≡ colon = byte_head w k r d in
    let n = word_complete w (k + 1) v [] l (drop_past w k (colon ∷ []) (decimal v) d ∙ sym (append-nil (decimal v))) refl in
    let m = length-append (decimal e) r in
    rw (a, b, n, eq-eqb (k + 1 + length (decimal v)) (length w) (omega arith))

pub says-read : {w : List ℕ} {e : Entry} → Says w e → entry_of w ≡ Some e
says-read (go v l q) = ap entry_of q ∙ go-read v l
says-read (event e v h l q) = ap entry_of q ∙ event-read e v h l

pub says-some : {w : List ℕ} {e : Entry} → Says w e → entry_of w ≡ None → ⊥
says-some s q = let z = sym (says-read s) ∙ q in let y : ◌≡◌ {A = ℕ} 0 1 = cc in omega arith

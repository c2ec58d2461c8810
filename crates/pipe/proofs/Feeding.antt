-- The loop's run: bytes fed one by one, and where it leads.
use mathlib.Core.List.{List, [], ◌++◌}
use mathlib.Core.Path.{◌≡◌, refl, sym, ◌∙◌}
use Prim.Native.Nat.{ℕ, ◌+◌, ◌<◌, ◌≤◌}
use lib.ListN.{length, get_or, take}
use lib.Seq.{take_all}
use Rattle.text.proofs.Putting.{fitted_front}
use Rattle.rig_log.specs.declared.Run.{Run}
use Rattle.rig_log.specs.Run.{Progress, fed, fed_all, progress_of, Stepped}
use Rattle.rig_log.proofs.Runs.Chains.{fed-next, fed-over, fed-one-says, fed_further}
use Rattle.pipe.specs.Loop.{FedPage, Leads, fed-on, ended}
use Rattle.pipe.specs.Page.{gathered}
use Rattle.pipe.proofs.Pages.{gathered-more}

module _ (chart : List ℕ) where
  pub feeding_start : (n : ℕ) (run : Run) (input page : List ℕ) → FedPage chart n (progress_of run) (take 0 input) page run page
  unfolding fed_all gathered
  feeding_start n run input page = record { next = refl; page = refl }

  -- one byte more
  pub feeding_on : (n : ℕ) (q : Progress) (input before page said : List ℕ) (run : Run) (i : ℕ) → FedPage chart n q (take i input) before run page → i < length input
      → (after said' : List ℕ) (run' : Run) (r : ℕ) → Stepped (fed chart (progress_of run) (get_or input i 0)) said said' run' r → after ≡ gathered n page (take r said')
      → FedPage chart n q (take (i + 1) input) before run' after
  feeding_on n q input before page said run i g h after said' run' r s p =
      record {
        next = fed_further chart q input i h g.next s.next;
        page = p ∙ rw (fitted_front r _ said said' s.says, g.page, g.next, fed-one-says chart q input i h) (sym (gathered-more _ _ _ _));
      }

  pub feeding_end : (n : ℕ) (q : Progress) (input before page : List ℕ) (run : Run) (i : ℕ) → length input ≤ i → FedPage chart n q (take i input) before run page → FedPage chart n q input before run page
  feeding_end n q input before page run i h g = rw (take_all i input h) at g

  pub leads_start : (q : Progress) → Leads chart q q
  unfolding fed_all
  leads_start q = fed-on []

  pub leads_to : {p q r : Progress} → Leads chart p q → q ≡ r → Leads chart p r
  leads_to l e = rw (← e) l

  -- one turn after others
  pub leads_on : {p q r : Progress} → Leads chart p q → Leads chart q r → Leads chart p r
  leads_on l ended = ended
  leads_on (fed-on s) (fed-on t) = rw (← fed-next chart _ s t) (fed-on (s ++ t))
  leads_on ended (fed-on t) = rw (fed-over chart t) ended

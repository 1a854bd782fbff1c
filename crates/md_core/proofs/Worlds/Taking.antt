-- Many steps, one after another.
use Rattle.std.proofs.Common.{ℕ, ◌≡◌, ◌+◌, ◌++◌, ◌∙◌, List, [], ◌∷◌, Some, Bool, sym, ap, take, slice_get, arith, append_assoc, length-append}
use Rattle.md_core.proofs.Values.{Event, occurrence, Run, and_event, TakesAll, occurrences}
use Rattle.md_core.proofs.Lists.Places.{take-one_more}
use Rattle.md_core.proofs.Worlds.Stepping.{marked-push}

pub takes-more : (es : List Event) (i : ℕ) (r r' r'' : Run) (e : Event) (b : Bool) → slice_get es i ≡ Some e → TakesAll (take i es) r r' →
    r'' ≡ and_event r' (occurrence e.job e.now e.own b) → TakesAll (take (i + 1) es) r r''
takes-more es i r r' r'' e b at taken is =
    let more = take-one_more es i e at in
    let last = marked-push (take i es) taken.0 e b taken.1 in (
      taken.0 ++ b ∷ [],
      simp (more, length-append) (let same = taken.1 in omega arith),
      is ∙ ap (λ (x : Run). and_event x (occurrence e.job e.now e.own b)) taken.2
          ∙ (λ j. record r { events = append_assoc r.events (occurrences (take i es) taken.0) (occurrence e.job e.now e.own b ∷ []) j })
          ∙ (λ j. record r { events = r.events ++ sym last j })
          ∙ (λ j. record r { events = r.events ++ occurrences (sym more j) (taken.0 ++ b ∷ []) }),
    )

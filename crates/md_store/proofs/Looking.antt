-- What a seat that enters what is published sees of it.
use Rattle.std.proofs.Common.{ℕ, ◌≡◌, ◌<◌, true, List, Option, sym, ap, ◌∙◌, subst, Result, Ok, Err, IfOk}
use mathlib.Core.List.{IsPrefix}
use Rattle.md_jobs.specs.declared.effect.Effect.{Effect}
use Rattle.md_listing.specs.declared.entry.Entry.{Entry}
use Rattle.md_view.specs.Named.{Named, AreMessages}
use Rattle.md_store.specs.declared.error.ListError.{ListError}
use Rattle.md_store.specs.declared.rule.Knowledge.{Knowledge}
use Rattle.md_store.specs.Listing.{named_after, IsLegalFrom, seen_in, IsLooked, Sees}
use Rattle.md_store.specs.Pages.{Log, Page}
use Rattle.md_store.specs.Publishing.{Learns}

module _ (v w : Knowledge) (p : Page) (s : Learns v p p w) (opened : v.opened ≡ true) where
  opening-is : s.0 ≡ v.opening
  opening-is = sym (s.2.0 opened).0

  looks : (held : List Effect) (folder : ℕ) (new : Option (List Entry)) (entries : List Entry) (front : Log) →
      IsLooked p held folder new entries front → Sees v held folder new entries front
  looks held folder new entries front k =
      let log : p.front.log ≡ front.log = ap (λ (f : Log). f.log) (sym k.front_is) in
      let names : p.names ≡ named_after v.opening front.log = sym s.3.names ∙ (λ i. named_after (opening-is i) (log i)) in
      record {
        book_is = ap (λ (f : Log). f.book) k.front_is ∙ sym (s.2.0 opened).1;
        held_begins = subst (IsPrefix held) log k.held_begins;
        legal = subst (λ (x : Named × List Effect). IsLegalFrom x.0 x.1) (λ i. (opening-is i, log i)) s.3.legal;
        messages = subst AreMessages opening-is s.3.opening_messages;
        folder_is_there = subst (λ (n : Named). folder < n.folders) names k.folder_is_there;
        entries_are = k.entries_are ∙ ap (λ (n : Named). seen_in new folder n.names) names;
      }

  pub all-looks : (held : List Effect) (folder : ℕ) (new : Option (List Entry)) {V : Type 0} (items : V → List Entry) (front : V →
      Log) (res : Result V ListError)
      → IfOk res (λ r. IsLooked p held folder new (items r) (front r)) → IfOk res (λ r. Sees v held folder new (items r) (front r))
  all-looks held folder new items front (Ok r) k = looks held folder new (items r) (front r) k
  all-looks held folder new items front (Err e) k = tt

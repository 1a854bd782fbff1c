-- What a monitor finds by messages is what the law has, and what each program owes.
use Rattle.std.proofs.Common.{ℕ, ◌≡◌, ◌≢◌, inl, inr, List, Some, None, Bool, true, refl, sym, ap, subst, ◌∙◌}
use Rattle.std.specs.Prelude.{IsTrue}
use Rattle.std.specs.FinSet as set
use Rattle.std.specs.Bool.{Decides}
use Rattle.std.proofs.lemmas.Bool.Decides.{Decides-eqb, Decides-and, Decides-not, Decides-like}
use Rattle.md_dirs.specs.State.{file_at}
use Rattle.md_dirs.specs.declared.paths.Path.{Path}
use Rattle.md_dirs.specs.declared.paths.Place.TheVariants.{Tmp, Cur}
use Rattle.md_name.specs.Names.{unique_of, info_of, flags_of}
use Rattle.md_log.specs.declared.line.Call.{Call}
use Rattle.md_log.specs.declared.line.Call.TheVariants as call
use Rattle.md_log.specs.declared.line.Deed.TheVariants as deed
use Rattle.md_log.specs.declared.line.Reply.TheVariants as reply
use Rattle.md_log.specs.declared.line.Step.{Step}
use Rattle.md_law.specs.History.{History, opening, next, at, now, moment, IsCall, Once}
use Rattle.md_law.specs.Messages.{is_message, IsOf, IsMessageAt, IsThere, IsTrashed}
use Rattle.md_law.specs.Files.{Adds}
use Rattle.md_law.specs.Clauses as law
use Rattle.md_law.specs.Law as owed
use Rattle.md_law.specs.Law.{WasOf}
use Rattle.md_monitor.specs.Changes.{change_of, with_file}
use Rattle.md_monitor.specs.Messages as found
use Rattle.md_monitor.specs.Messages.{messages_kept, is_of, is_of_any, is_there, empties_trash}
use Rattle.md_monitor.proofs.Tests.{some-and, some-and-there, and-then, free-is, tmp-is, cur-is}
use Rattle.md_monitor.proofs.Changing.{with_file-is}
use Rattle.md_monitor.proofs.Seeing.{some-where, times-is}
use Rattle.md_monitor.proofs.Pairs.{another-is}
use Rattle.md_monitor.proofs.Stepping.{is-call, changes, names}
use Rattle.md_monitor.proofs.Once.{once-map, named-is}
use Rattle.md_monitor.proofs.Remembering.{IsOfAny, IsAnywhere, of-is, of_any-is, there-is, messages-kept}

-- the message is in the folder
pub is-there : (m : History) (folder : ℕ) (unique : List ℕ) → Decides (is_there (at m) folder unique) (IsThere (at m) folder unique)
is-there m folder unique = Decides-like _ (there-is m folder unique).0 (there-is m folder unique).1
    (some-where _ (λ p n. IsOf p folder unique) (λ e. of-is folder unique e.0) (at m))

empties-is : (c : Call)
    → Decides (empties_trash c) ((p : Path) × (c ≡ call.At deed.Unlink p reply.Ok) × ((p.place ≡ Cur) × IsTrashed p.name))
empties-is (call.At deed.Unlink p reply.Ok) =
    let both = Decides-and _ _ (cur-is p.place) (some-and (flags_of (info_of p.name)) (λ flags. set.contains flags 84)
    (λ flags. IsTrue (set.contains flags 84)) (λ flags. (λ t. t, λ t. t))) in (
      λ t. (p, refl, both.0 t),
      λ (q, is, here). let same : p ≡ q = cc is in both.1 (subst (λ w. (w.place ≡ Cur) × IsTrashed w.name) (sym same) here),
    )
empties-is c = (λ t. absurd (cc), λ (p, is, here). absurd (cc is))

-- one for which it once was so
once-some : (P : ℕ → History → Type 0) (h : History) → Once (λ m. (n : ℕ) × P n m) h → (n : ℕ) × Once (P n) h
unfolding Once
once-some P (opening m) once = once
once-some P (next past x) (inl now) = (now.0, inl now.1)
once-some P (next past x) (inr was) = let rest = once-some P past was in (rest.0, inr rest.1)

module _ (past : History) (x : Step) where
  abbrev h : History
  h = next past x

  -- a path of a message is added, of which the test holds
  added-is : (test : Path × ℕ → Bool) (P : Path → ℕ → Type 0)
      → ((p : Path) (n : ℕ) → Adds h p n → is_message p ≡ true → Decides (test (p, n)) (P p n))
      → Decides (found.adds_message (at past) (now h) (messages_kept past) x test)
      ((p : Path) × (n : ℕ) × Adds h p n × (is_message p ≡ true) × P p n)
  added-is test P each = Decides-like _
      (λ (e, is, both). (e.0, e.1, (both.0.0, ((names past x e.0 e.1).0 is).0), both.0.1, both.1))
      (λ (p, n, adds, message, holds).
      ((p, n), (names past x p n).1 (adds.1, λ some. let none = adds.0 in cc), ((adds.0, message), holds)))
      (some-and-there (change_of (at past) x.call).named _
      (λ e. ((file_at (at past) e.0 ≡ None) × (is_message e.0 ≡ true)) × P e.0 e.1) (λ e is.
      and-then _ (test e) (Decides-and _ (is_message e.0) (free-is (file_at (at past) e.0)) (λ t. t, λ t. t))
      (λ both. each e.0 e.1 (both.0, ((names past x e.0 e.1).0 is).0) both.1)))

  pub two_names : Decides (found.breaks_two_names (at past) (now h) (messages_kept past) x) (law.TwoNames h)
  unfolding moment
  two_names = Decides-like _
      (λ (p, m, adds, message, (q, n, other, there, is)). (p, q, m, n, adds, message, other, (there, is)))
      (λ (p, q, m, n, adds, message, other, there). (p, m, adds, message, (q, n, other, there.0, there.1)))
      (added-is _ (λ p m. (q : Path) × (n : ℕ) × (p ≢ q) × (file_at (at h) q ≡ Some n) × IsOf q p.folder (unique_of p.name))
      (λ p m adds message.
      another-is _ (λ q n. IsOf q p.folder (unique_of p.name)) (λ e. of-is p.folder (unique_of p.name) e.0) (at h) p m adds.1
      (message, refl, refl)))

  pub used_again : Decides (found.breaks_used_again (at past) (now h) (messages_kept past) x) (law.UsedAgain h)
  used_again = Decides-like _
      (λ (p, n, adds, message, both). (p, n, adds, message, both.0.0, both.0.1, both.1))
      (λ (p, n, adds, message, absent, was, other). (p, n, adds, message, ((absent, was), other)))
      (added-is _ (λ p n. ((IsThere (at past) p.folder (unique_of p.name) → ⊥)
      × Once (λ m. IsThere (at m) p.folder (unique_of p.name)) past)
      × (Once (λ m. (q : Path) × IsMessageAt (at m) p.folder (unique_of p.name) q n) past → ⊥)) (λ p n adds message.
      Decides-and _ _ (Decides-and _ _ (Decides-not _ (is-there past p.folder (unique_of p.name)))
      ((messages-kept past).was_there p.folder (unique_of p.name)))
      (Decides-not _ ((messages-kept past).was_file p.folder (unique_of p.name) n))))

  -- ---- a message that goes

  -- the call empties the trash of the path that it takes
  emptied : (p : Path) (n : ℕ) → (change_of (at past) x.call).taken ≡ Some (p, n)
      → Decides (empties_trash x.call) (IsCall h (call.At deed.Unlink p reply.Ok) × (p.place ≡ Cur) × IsTrashed p.name)
  emptied p n taken = Decides-like _
      (λ (q, is, here).
      let same = one q is in (
        (is-call past x _).1 (is ∙ ap (λ (w : Path). call.At deed.Unlink w reply.Ok) same),
        subst (λ w. w.place ≡ Cur) same here.0,
        subst (λ w. IsTrashed w.name) same here.1,
      ))
      (λ (is, cur, trashed). (p, (is-call past x _).0 is, (cur, trashed)))
      (empties-is x.call)
    where
      one : (q : Path) → x.call ≡ call.At deed.Unlink q reply.Ok → q ≡ p
      one q is =
          let gone : with_file q (file_at (at past) q) ≡ Some (p, n) = ap (λ c. (change_of (at past) c).taken) (sym is) ∙ taken in
          ((with_file-is q (file_at (at past) q) p n).0 gone).0

  -- the file of a path that went is no message of its unique name elsewhere
  abbrev IsNowhere : Path → ℕ → Type 0
  IsNowhere p n = (q : Path) → file_at (at h) q ≡ Some n → is_message q ≡ true → unique_of q.name ≡ unique_of p.name → ⊥

  abbrev Goes : Path → ℕ → Type 0
  Goes p n = (((is_message p ≡ true) × (IsThere (at h) p.folder (unique_of p.name) → ⊥))
      × ((IsCall h (call.At deed.Unlink p reply.Ok) × (p.place ≡ Cur) × IsTrashed p.name) → ⊥)) × IsNowhere p n

  pub gone : Decides (found.breaks_gone (at past) (now h) (messages_kept past) x) (law.Gone h)
  unfolding moment
  gone = Decides-like _
      (λ (e, is, goes). (e.0, e.1, ((changes past x).taken e.0 e.1).0 is, goes.0.0.0, goes.0.0.1, goes.0.1, goes.1))
      (λ (p, n, takes, message, absent, kept, nowhere).
      ((p, n), ((changes past x).taken p n).1 takes, (((message, absent), kept), nowhere)))
      (some-and-there (change_of (at past) x.call).taken _ (λ e. Goes e.0 e.1) (λ e is. Decides-and _ _
      (Decides-and _ _ (Decides-and (is_message e.0) _ (λ t. t, λ t. t) (Decides-not _ (is-there h e.0.folder (unique_of e.0.name))))
      (Decides-not _ (emptied e.0 e.1 is)))
      (Decides-like _ (λ none q there message name. none (q, there, (message, name))) (λ none (q, there, both). none q there both.0 both.1)
      (Decides-not _ (times-is (is_of_any (unique_of e.0.name)) (IsOfAny (unique_of e.0.name))
      (of_any-is (unique_of e.0.name)) (at h) e.1)))))

  -- ---- what each program owes

  pub in_two_folders : Decides (found.breaks_in_two_folders (at past) (now h) (messages_kept past) x) (owed.InTwoFolders h)
  unfolding moment
  in_two_folders = Decides-like _
      (λ (p, m, adds, message, (q, n, there, is, other)).
      (p, q, m, n, adds, message, λ same. other (sym same), (there, (is.0, refl, is.1))))
      (λ (p, q, m, n, adds, message, other, there). (p, m, adds, message, (q, n, there.0, (there.1.0, there.1.2), λ same. other (sym same))))
      (added-is _ (λ p m. (q : Path) × (n : ℕ) × (file_at (at h) q ≡ Some n) × IsOfAny (unique_of p.name) q × (q.folder ≢ p.folder))
      (λ p m adds message. Decides-like _ (λ (q, n, there, both). (q, n, there, both.0, both.1))
      (λ (q, n, there, is, other). (q, n, there, (is, other)))
      (some-where _ (λ q n. IsOfAny (unique_of p.name) q × (q.folder ≢ p.folder))
      (λ e. Decides-and _ _ (of_any-is (unique_of p.name) e.0) (Decides-not _ (Decides-eqb e.0.folder p.folder))) (at h))))

  pub used_twice : Decides (found.breaks_used_twice (at past) (now h) (messages_kept past) x) (owed.UsedTwice h)
  used_twice = Decides-like _
      (λ (p, n, new, both).
      let other = once-some _ past (once-map (IsAnywhere (unique_of p.name))
      (λ m. (k : ℕ) × ((q : Path) × IsMessageAt (at m) q.folder (unique_of p.name) q k))
      (λ m (q, k, there, is). (k, (q, (there, (is.0, refl, is.1))))) past both.0.1) in
      (p, n, other.0, new, both.0.0, other.1, both.1))
      (λ (p, n, other, new, message, was, never). (
        p,
        n,
        new,
        (
          (
            message,
            once-map _ (IsAnywhere (unique_of p.name)) (λ m (q, there). (q, other, there.0, (there.1.0, there.1.2))) past was,
          ),
          never,
        ),
      ))
      (named-is past x _ (λ p n. ((is_message p ≡ true) × Once (IsAnywhere (unique_of p.name)) past)
      × (WasOf past (unique_of p.name) n → ⊥)) (λ e.
      Decides-and _ _ (Decides-and (is_message e.0) _ (λ t. t, λ t. t) ((messages-kept past).was_any (unique_of e.0.name)))
      (Decides-not _ ((messages-kept past).was_any_file (unique_of e.0.name) e.1))))

  pub made_again : Decides (found.breaks_made_again (at past) (now h) (messages_kept past) x) (owed.MadeAgain h)
  made_again = Decides-like _
      (λ (p, n, new, (tmp, (other, differ, was))). (p, n, other, new, tmp, differ, was))
      (λ (p, n, other, new, tmp, differ, was). (p, n, new, (tmp, (other, differ, was))))
      (named-is past x _ (λ p n. (p.place ≡ Tmp) × ((other : ℕ) × (other ≢ n) × Once (λ m. file_at (at m) p ≡ Some other) past))
      (λ e. and-then _ _ (tmp-is e.0.place) (λ tmp. (messages-kept past).paths e.0 e.1 ((tmp-is e.0.place).1 tmp))))

-- A step of an actor, by its parts.
use Rattle.std.proofs.Common.{ℕ, ◌≡◌, ◌&&◌, ◌||◌, ◌==◌, cond, [], List, Option, Some, None, Bool, true, false, refl, sym, ap, subst, ◌∙◌}
use Rattle.std.specs.Option.{option_or}
use Rattle.std.specs.Str.{bytes_eq}
use Rattle.md_dirs.specs.declared.paths.Path.{Path}
use Rattle.md_name.specs.Names.{unique_of}
use Rattle.md_law.specs.Messages.{is_message}
use Rattle.md_log.specs.declared.line.Call.{Call}
use Rattle.md_log.specs.declared.line.Call.TheVariants as call
use Rattle.md_log.specs.declared.line.Naming.{Naming}
use Rattle.md_log.specs.declared.line.Reply.{Reply}
use Rattle.md_log.specs.declared.line.Step.{Step}
use Rattle.md_monitor.specs.Files.{is_ok}
use Rattle.md_monitor.specs.Messages.{is_of}
use Rattle.md_monitor.specs.Answers.{is_unlink}
use Rattle.md_watch.specs.declared.claims.Claims.{Claims}
use Rattle.md_watch.specs.declared.claims.actor.Actor.{Actor}
use Rattle.md_watch.specs.declared.claims.deeds.Deeds.{Deeds}
use Rattle.md_watch.specs.declared.presences.InFolders.{InFolders}
use Rattle.md_kept.specs.declared.table.Table.{Table}
use Rattle.md_kept.specs.Changes.{Turn, message_of}
use Rattle.md_kept.specs.Tables.{value_at, is_key, Puts}
use Rattle.md_watch.specs.Claims.{Acts, ActsAs, Answers, Begins, Did, Does, IsNew, Looks, Steps, act, act_at, act_by, actor_in, change, change_by, did_after, did_in, did_of, did_or, is_told, look_by, nothing, told_by}
use Rattle.md_kept.proofs.Keys.{key-is, message-is}

-- a call on two paths that is not done is one by the first of them
pub act-undone : (n : Naming) (p q : Path) (r : Reply) (now : ℕ) (old new : Actor) → is_ok r ≡ false
    → Does (act_at p r now) old new → Does (act_by (call.Between n p q r) now) old new
act-undone n p q r now old new undone does = record {
  first = does.first;
  told = does.told;
  looks = does.looks;
  deeds = λ f u. does.deeds f u ∙ by (is_of f u p) (is_of f u q) (did_in old f u);
}
  where
    by : (a b : Bool) (d : Did) → cond a (act r now d) d ≡ cond (a || (b && is_ok r)) (act r now d) d
    by true b d = refl
    by false true d = sym (ap (λ k. cond k (act r now d) d) undone)
    by false false d = refl

-- the deeds about the message of a path are taken out, and put back changed
pub changes : (p : Path) (n : ℕ) (u : List ℕ) (was is unlinks : Bool) (now : ℕ) (old mid new : Actor) (taken deeds : Deeds)
    → Some u ≡ message_of p → did_of taken ≡ did_in old p.folder u → did_of deeds ≡ change was is unlinks now (did_of taken)
    → Puts p.folder u None old.deeds mid.deeds → Puts p.folder u (Some deeds) mid.deeds new.deeds
    → new.first ≡ old.first → new.told ≡ old.told → new.looks ≡ old.looks
    → Does (change_by (Some (p, n)) was is unlinks now) old new
changes p n u was is unlinks now old mid new taken deeds named had so took put first told looks = record {
  first = first;
  told = told;
  looks = looks;
  deeds = λ f q. by f q (is_key (p.folder, u) (f, q)) refl;
}
  where
    message : (is_message p ≡ true) × (u ≡ unique_of p.name)
    message = message-is p u named

    of-key : (f : ℕ) (q : List ℕ) → is_of f q p ≡ is_key (p.folder, u) (f, q)
    of-key f q = (λ i. message.0 i && p.folder == f && bytes_eq ((sym message.1) i) q)

    by : (f : ℕ) (q : List ℕ) (b : Bool) → is_key (p.folder, u) (f, q) ≡ b
        → did_in new f q ≡ change_by (Some (p, n)) was is unlinks now f q (did_in old f q)
    by f q true same =
        let parts = (key-is (p.folder, u) (f, q)).0 same in
        ap (did_or new.first) (put f q ∙ ap (λ b. cond b (Some deeds) (value_at mid.deeds f q)) same) ∙ so
        ∙ ap (change was is unlinks now) (had ∙ (λ i. did_in old (parts.0 i) (parts.1 i)))
        ∙ sym (ap (λ b. cond b (change was is unlinks now (did_in old f q)) (did_in old f q)) (of-key f q ∙ same))
    by f q false other =
        ap (did_or new.first) (put f q ∙ ap (λ b. cond b (Some deeds) (value_at mid.deeds f q)) other
        ∙ took f q ∙ ap (λ b. cond b None (value_at old.deeds f q)) other)
        ∙ (λ i. did_or (first i) (value_at old.deeds f q))
        ∙ sym (ap (λ b. cond b (change was is unlinks now (did_in old f q)) (did_in old f q)) (of-key f q ∙ other))

or-none : {A : Type 0} (o : Option A) → option_or o None ≡ o
or-none None = refl
or-none (Some x) = refl

pub whole : (c : Call) (t : Turn) (before after : InFolders) (now : ℕ) (unlinks : Bool) (a0 a1 a2 a3 a4 a5 a6 : Actor)
    → unlinks ≡ is_unlink c → Begins now a0 a1 → Does (act_by c now) a1 a2
    → Does (change_by t.taken before.taken after.taken unlinks now) a2 a3
    → Does (change_by t.named before.named after.named unlinks now) a3 a4
    → Looks c now a4 a5 → Answers c a5 a6 → Acts c t before after now a0 a6
whole c t before after now unlinks a0 a1 a2 a3 a4 a5 a6 unlink begins acts takes names looks answers = record {
  told = answers.told ∙ ap (option_or (told_by c)) (looks.told ∙ names.told ∙ takes.told ∙ acts.told ∙ begins.told) ∙ or-none (told_by c);
  looks = λ f. ap (λ (k : Table ℕ). value_at k f []) answers.looks ∙ looks.looks f
      ∙ ap (λ (k : Table ℕ). look_by c now f (value_at k f [])) (names.looks ∙ takes.looks ∙ acts.looks ∙ begins.looks);
  deeds = λ f u. answers.deeds f u
      ∙ ap (λ d. cond (is_told (told_by c) f u) (nothing None) d)
      ((λ i. did_or (looks.first i) (value_at (looks.deeds i) f u)) ∙ names.deeds f u
      ∙ ap (λ (b : Bool). change_by t.named before.named after.named b now f u (did_in a3 f u)) unlink
      ∙ ap (change_by t.named before.named after.named (is_unlink c) now f u)
      (takes.deeds f u ∙ ap (λ (b : Bool). change_by t.taken before.taken after.taken b now f u (did_in a2 f u)) unlink
      ∙ ap (change_by t.taken before.taken after.taken (is_unlink c) now f u) (acts.deeds f u ∙ ap (act_by c now f u) (begins.deeds f u))));
}

-- ---- by actors

pub acts-first : (c : Call) (t : Turn) (before after : InFolders) (now : ℕ) (a new : Actor)
    → IsNew now a → Acts c t before after now a new → ActsAs c t before after now None (Some new)
acts-first c t before after now a new none acts = record {
  there = refl;
  told = acts.told;
  looks = λ f. acts.looks f ∙ ap (look_by c now f) (none.looks f);
  deeds = λ f u. acts.deeds f u ∙ (λ i. did_after c t before after now (is_told (none.told i) f u) f u (none.deeds f u i));
}

pub acts-again : (c : Call) (t : Turn) (before after : InFolders) (now : ℕ) (a new : Actor)
    → Acts c t before after now a new → ActsAs c t before after now (Some a) (Some new)
acts-again c t before after now a new acts = record { there = refl; told = acts.told; looks = acts.looks; deeds = acts.deeds }

pub steps : (x : Step) (t : Turn) (before after : InFolders) (now : ℕ) (old new : Claims) (mid : Table Actor)
    (o : Option Actor) (a : Actor) → o ≡ actor_in old x.actor → Puts 0 x.actor None old.actors mid
    → Puts 0 x.actor (Some a) mid new.actors → ActsAs x.call t before after now o (Some a) → Steps x t before after now old new
steps x t before after now old new mid o a was taken put acts =
    let here : actor_in new x.actor ≡ Some a =
    put 0 x.actor ∙ ap (λ b. cond b (Some a) (value_at mid 0 x.actor)) ((key-is (0, x.actor) (0, x.actor)).1 (refl, refl)) in
    record {
      own = subst (λ k. ActsAs x.call t before after now (actor_in old x.actor) k) (sym here)
          (subst (λ k. ActsAs x.call t before after now k (Some a)) was acts);
      others = λ actor other. put 0 actor ∙ ap (λ b. cond b (Some a) (value_at mid 0 actor)) other
          ∙ taken 0 actor ∙ ap (λ b. cond b None (value_at old.actors 0 actor)) other;
    }

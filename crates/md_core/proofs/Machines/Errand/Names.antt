-- The name of a copy: it is a message's, of the fresh unique name, and shows the flags of the message.
use Rattle.std.proofs.Common.{ℕ, ◌≡◌, List, Option, Some, None, Bool, true, false, cond, is_some, refl, sym, ap, ◌∙◌, ◌&&◌, codes, drop, nat_eq}
use Rattle.md_core.proofs.Values.{list_all, starts_with, info_with, info_copied, info_in, name_copied}
use Rattle.std.specs.FinSet as set
use Rattle.md_name.specs.Letters.{is_letter, Set, spelling}
use Rattle.md_name.specs.Names.{unique_of, info_text, info_by, info_of, flags_of, is_message_name, is_unique_name, flagged}
use Rattle.md_name.specs.declared.info.Info.{Info}
use Rattle.md_name.specs.declared.info.Info.TheVariants.{Bare, Two, Opaque}
use Rattle.md_name.proofs.Flagged.{IsUniquePart, list_all-spelling, unique_of-flagged}
use Rattle.md_core.proofs.Looking.LookUps.{unique-part, message-name, info-in}
use Rattle.md_core.proofs.Machines.Errand.Moves.{info-flagged}
use Rattle.md_core.proofs.Worlds.UniqueNames.{unique_name}

-- what a spelling shows are flags again
shows-flagged : (flags : Set) → flags_of (info_by (info_with flags)) ≡ Some (set.from_list (spelling flags))
unfolding info_by
shows-flagged flags = ap (λ b. flags_of (cond b (Two (set.from_list (spelling flags))) Opaque)) (list_all-spelling flags)

-- info that is there is not bare
some-bare : (text : List ℕ) → info_by (Some text) ≡ Bare → ⊥
unfolding info_by
some-bare text is = by (starts_with nat_eq text (codes "2,") && list_all is_letter (drop 2 text)) is
  where
    by : (b : Bool) → cond b (Two (set.from_list (drop 2 text))) Opaque ≡ Bare → ⊥
    by true h = cc
    by false h = cc

pub record IsCopyName (fresh name : List ℕ) : Type 0 where
  -- the flags of the message
  pub flags : Set
  pub had : flags_of (info_of name) ≡ Some flags
  pub unique : unique_of (name_copied fresh (info_in name)) ≡ fresh
  pub message : is_message_name (name_copied fresh (info_in name)) ≡ true
  pub info : info_text (name_copied fresh (info_in name)) ≡ info_copied (info_text name) flags
  -- the flags of the copy
  pub shown : Set
  pub shows : flags_of (info_of (name_copied fresh (info_in name))) ≡ Some shown

module _ (fresh name : List ℕ) (valid : is_unique_name fresh ≡ true) (message : is_message_name name ≡ true) where
  part : IsUniquePart fresh
  part = unique-part fresh valid

  copied-bare : info_text name ≡ None → IsCopyName fresh name
  unfolding info_by
  copied-bare none =
      let bare : info_of name ≡ Bare = ap info_by none in
      let is : name_copied fresh (info_in name) ≡ fresh = ap (name_copied fresh) (info-in name message ∙ bare) in
      let text : info_text (name_copied fresh (info_in name)) ≡ None = ap info_text is ∙ (unique_name fresh valid).bare in
      record {
        flags = set.empty;
        had = ap flags_of bare;
        unique = ap unique_of is ∙ (unique_name fresh valid).plain;
        message = ap is_message_name is ∙ (unique_name fresh valid).message;
        info = text ∙ ap (λ (o : Option (List ℕ)). info_copied o set.empty) (sym none);
        shown = set.empty;
        shows = ap (λ (o : Option (List ℕ)). flags_of (info_by o)) text;
      }

  copied-two : (text : List ℕ) (flags : Set) → info_text name ≡ Some text → info_of name ≡ Two flags → IsCopyName fresh name
  copied-two text flags some two =
      let is : name_copied fresh (info_in name) ≡ flagged fresh flags = ap (name_copied fresh) (info-in name message ∙ two) in
      let unique : unique_of (flagged fresh flags) ≡ fresh = unique_of-flagged fresh flags part.colonless in
      let info : info_text (name_copied fresh (info_in name)) ≡ info_with flags = ap info_text is ∙ info-flagged fresh flags part.colonless in
      record {
        flags = flags;
        had = ap flags_of two;
        unique = ap unique_of is ∙ unique;
        message = ap is_message_name is ∙ message-name fresh (flagged fresh flags) part unique;
        info = info ∙ ap (λ (o : Option (List ℕ)). info_copied o flags) (sym some);
        shown = set.from_list (spelling flags);
        shows = ap (λ (o : Option (List ℕ)). flags_of (info_by o)) info ∙ shows-flagged flags;
      }

  -- the name of a copy of a message without other info
  pub copy-name : is_some (flags_of (info_in name)) ≡ true → IsCopyName fresh name
  copy-name acts = by (info_text name) refl
    where
      plain : is_some (flags_of (info_of name)) ≡ true
      plain = ap (λ (i : Info). is_some (flags_of i)) (sym (info-in name message)) ∙ acts

      with_text : (text : List ℕ) → info_text name ≡ Some text → (i : Info) → info_of name ≡ i → IsCopyName fresh name
      with_text text some (Two flags) is = copied-two text flags some is
      with_text text some Opaque is = let no : is_some (flags_of (info_of name)) ≡ false = ap (λ (i : Info). is_some (flags_of i)) is in cc
      with_text text some Bare is = absurd (some-bare text (sym (ap info_by some) ∙ is))

      by : (o : Option (List ℕ)) → info_text name ≡ o → IsCopyName fresh name
      by None is = copied-bare is
      by (Some text) is = with_text text is (info_of name) refl

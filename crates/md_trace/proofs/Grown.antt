-- A log that grows twice.
use Rattle.std.proofs.Common.{◌≡◌, ◌⊎◌, inl, inr, ◌<◌, ◌++◌, ◌+◌, ℕ, List, [], length, take, flat_map, get_or, Option, None, Some, option_map, slice_get, sym, subst, ◌∙◌, ap, append_assoc, refl}
use Rattle.std.specs.Fmt.{decimal}
use Rattle.std.specs.Prelude.{codes}
use Rattle.std.proofs.lemmas.List.{flat_map_more, take_more}
use Rattle.md_core.specs.declared.Answer.{Answer}
use Rattle.md_core.specs.declared.Answer.TheVariants as answer
use Rattle.md_core.specs.declared.Change.{Change}
use Rattle.md_core.specs.declared.Event.{Event}
use Rattle.md_script.specs.declared.error.PlayKind.TheVariants.{BadNumber, NoMemory}
use Rattle.md_core.specs.declared.Change.TheVariants as change
use Rattle.md_dirs.specs.declared.paths.Place.{Place}
use Rattle.md_trace.specs.declared.noted.Noted.{Noted}
use Rattle.md_trace.specs.declared.noted.Noted.TheVariants as noted
use Rattle.md_trace.specs.declared.answers.Subject.{Subject}
use Rattle.md_trace.specs.declared.text.Log.{Log}
use Rattle.md_trace.specs.Answers.{answer_lines_of, answered_text, copied_text, missed_text, moved_text}
use Rattle.md_trace.specs.Growing.{Grows, GrowsIf, escape_name, name_text, folder_in, folder_text, message_text, path_text}
use Rattle.md_trace.specs.Steps.{change_text, noted_text}

-- by these bytes, and then by those
pub also : {a b : List ℕ} {l m n : Log} → Grows a l m → Grows b m n → Grows (a ++ b) l n
also {a} {b} {l} {m} {n} first second = record {
  stays = λ kind is. let still = first.stays kind is in second.stays kind (ap (λ log. log.refused) still ∙ is) ∙ still;
  text = λ shown. elim m.refused as (λ r. m.refused ≡ r → n.text.items ≡ l.text.items ++ (a ++ b)) [
    | None ↦ λ is. second.text shown ∙ ap (λ text. text ++ b) (first.text is) ∙ append_assoc l.text.items a b
    | Some kind ↦ λ is. let clash = sym shown ∙ ap (λ log. log.refused) (second.stays kind is) ∙ is in cc
  ] refl;
  memory = λ none kind is. elim m.refused as (λ r. m.refused ≡ r → kind ≡ NoMemory) [
    | None ↦ λ still. second.memory still kind is
    | Some other ↦ λ was. first.memory none kind (sym (ap (λ log. log.refused) (second.stays other was)) ∙ is)
  ] refl;
  folders = second.folders ∙ first.folders;
  line = second.line ∙ first.line;
  before = second.before ∙ first.before;
}

-- by bytes that are fit
pub fit : {F : Type 0} {bytes : List ℕ} {l m : Log} → F → Grows bytes l m → GrowsIf F bytes l m
fit are grown = record {
  stays = grown.stays;
  text = λ shown. (are, grown.text shown);
  refused = λ none kind is. inl (grown.memory none kind is);
  folders = grown.folders;
  line = grown.line;
  before = grown.before;
}

-- by bytes if these are fit, and then by others if those are
pub also_if : {F G : Type 0} {a b : List ℕ} {l m n : Log} → GrowsIf F a l m → GrowsIf G b m n → GrowsIf (F × G) (a ++ b) l n
also_if {F} {G} {a} {b} {l} {m} {n} first second = record {
  stays = λ kind is. let still = first.stays kind is in second.stays kind (ap (λ log. log.refused) still ∙ is) ∙ still;
  text = λ shown. elim m.refused as (λ r. m.refused ≡ r → (F × G) × (n.text.items ≡ l.text.items ++ (a ++ b))) [
    | None ↦ λ is. let was = first.text is in let then = second.text shown in
        ((was.0, then.0), then.1 ∙ ap (λ text. text ++ b) was.1 ∙ append_assoc l.text.items a b)
    | Some kind ↦ λ is. let clash = sym shown ∙ ap (λ log. log.refused) (second.stays kind is) ∙ is in cc
  ] refl;
  refused = λ none kind is. elim m.refused as (λ r. m.refused ≡ r → (kind ≡ NoMemory) ⊎ ((kind ≡ BadNumber) × (F × G → ⊥))) [
    | None ↦ λ still. elim (second.refused still kind is) [ inl lacking ↦ inl lacking | inr bad ↦ inr (bad.0, λ both. bad.1 both.1) ]
    | Some other ↦ λ was. elim (first.refused none kind (sym (ap (λ log. log.refused) (second.stays other was)) ∙ is)) [
      | inl lacking ↦ inl lacking
      | inr bad ↦ inr (bad.0, λ both. bad.1 both.0)
    ]
  ] refl;
  folders = second.folders ∙ first.folders;
  line = second.line ∙ first.line;
  before = second.before ∙ first.before;
}

-- What is fit may be said in other words.
pub if_same : {F G : Type 0} {bytes : List ℕ} {l m : Log} → (F → G) → (G → F) → GrowsIf F bytes l m → GrowsIf G bytes l m
if_same to from grown = record {
  stays = grown.stays;
  text = λ shown. let was = grown.text shown in (to was.0, was.1);
  refused = λ none kind is. elim (grown.refused none kind is) [ inl lacking ↦ inl lacking | inr bad ↦ inr (bad.0, λ g. bad.1 (from g)) ];
  folders = grown.folders;
  line = grown.line;
  before = grown.before;
}

-- by bytes if they are fit, and then by any
pub if_also : {F : Type 0} {a b : List ℕ} {l m n : Log} → GrowsIf F a l m → Grows b m n → GrowsIf F (a ++ b) l n
if_also first second = if_same (λ both. both.0) (λ f. (f, tt)) (also_if first (fit {F = Unit {0}} tt second))

-- by any bytes, and then by some if they are fit
pub then_if : {F : Type 0} {a b : List ℕ} {l m n : Log} → Grows a l m → GrowsIf F b m n → GrowsIf F (a ++ b) l n
then_if first second = if_same (λ both. both.1) (λ f. (tt, f)) (also_if (fit {F = Unit {0}} tt first) second)

-- by what some things say so far, and then by what the next one does
pub also_next : {X : Type 0} {l m n : Log} (f : X → List ℕ) (xs : List X) (i : ℕ) (d : X) → i < length xs
    → Grows (flat_map f (take i xs)) l m → Grows (f (get_or xs i d)) m n → Grows (flat_map f (take (i + 1) xs)) l n
also_next {X} {l} {m} {n} f xs i d low first second =
    let more = flat_map_more f [] (take i xs) (get_or xs i d) ∙ ap (flat_map f) (sym (take_more xs i d low)) in
    subst (λ text. Grows text l n) more (also first second)

-- by the bytes of a name so far, and then by its next byte
pub also_byte : {l m n : Log} (name : List ℕ) (i d : ℕ) → i < length name → Grows (name_text (take i name)) l m
    → Grows (escape_name (get_or name i d)) m n → Grows (name_text (take (i + 1) name)) l n
also_byte {l} {m} {n} name i d low first second =
    also_next escape_name name i d low first second

-- A log that grows keeps the names of its folders.
pub at_folder : {bytes : List ℕ} {l m n : Log} → Grows bytes l m → (folder : ℕ) → Grows (folder_in m folder) m n
    → Grows (folder_in l folder) m n
at_folder {bytes} {l} {m} {n} grown folder more =
    let same = ap (λ folders. folder_text (option_map (λ name. name.items) (slice_get folders.items folder))) grown.folders in
    subst (λ text. Grows text m n) same more

-- so a message is named as before
pub at_message : {bytes : List ℕ} {l m n : Log} → Grows bytes l m → (folder : ℕ) (unique : List ℕ)
    → Grows (message_text m folder unique) m n → Grows (message_text l folder unique) m n
at_message {bytes} {l} {m} {n} grown folder unique more =
    let same = ap (λ folders. message_text (record l { folders = folders }) folder unique) grown.folders in
    subst (λ text. Grows text m n) same more

-- and so is a path
pub at_path : {bytes : List ℕ} {l m n : Log} → Grows bytes l m → (folder : ℕ) (place : Place) (name : List ℕ)
    → Grows (path_text m folder place name) m n → Grows (path_text l folder place name) m n
at_path {bytes} {l} {m} {n} grown folder place name more =
    let same = ap (λ folders. path_text (record l { folders = folders }) folder place name) grown.folders in
    subst (λ text. Grows text m n) same more

same_noted : (l m : Log) → m.folders ≡ l.folders → (note : Noted) → noted_text m note ≡ noted_text l note
same_noted l m same (noted.One path) = ap (λ folders. noted_text (record l { folders = folders }) (noted.One path)) same
same_noted l m same (noted.Two old new) = ap (λ folders. noted_text (record l { folders = folders }) (noted.Two old new)) same
same_noted l m same (noted.Directory folder place) =
    ap (λ folders. noted_text (record l { folders = folders }) (noted.Directory folder place)) same

-- and so is what was noted of a call
pub at_noted : {F : Type 0} {bytes : List ℕ} {l m n : Log} → GrowsIf F bytes l m → (note : Noted) → Grows (noted_text m note) m n
    → Grows (noted_text l note) m n
at_noted {F} {bytes} {l} {m} {n} grown note more = subst (λ text. Grows text m n) (same_noted l m grown.folders note) more

same_change : {bytes : List ℕ} {l m : Log} → Grows bytes l m → (c : Change) → change_text m c ≡ change_text l c
same_change {bytes} {l} {m} grown (change.Add f p name size) =
    ap (λ folders. change_text (record l { folders = folders }) (change.Add f p name size)) grown.folders
same_change {bytes} {l} {m} grown (change.Rename f p name to to_place to_name) =
    ap (λ folders. change_text (record l { folders = folders }) (change.Rename f p name to to_place to_name)) grown.folders
same_change {bytes} {l} {m} grown (change.Remove f p name) =
    ap (λ folders. change_text (record l { folders = folders }) (change.Remove f p name)) grown.folders
same_change {bytes} {l} {m} grown change.Same = refl

-- so a change is told as before
pub at_change : {bytes : List ℕ} {l m n : Log} → Grows bytes l m → (c : Change) → Grows (change_text m c) m n → Grows (change_text l c) m n
at_change {bytes} {l} {m} {n} grown c more = subst (λ text. Grows text m n) (same_change grown c) more

same_copied : (l m : Log) → m.folders ≡ l.folders → (s : Subject) (job : ℕ) (to : Option ℕ) (fresh : Option (List ℕ))
    → copied_text m s job to fresh ≡ copied_text l s job to fresh
same_copied l m same s job (Some folder) (Some unique) = ap (λ folders. copied_text (record l { folders = folders }) s job (Some folder) (Some unique)) same
same_copied l m same s job (Some folder) None = ap (λ folders. copied_text (record l { folders = folders }) s job (Some folder) None) same
same_copied l m same s job None fresh = ap (λ folders. copied_text (record l { folders = folders }) s job None fresh) same

same_moved : (l m : Log) → m.folders ≡ l.folders → (s : Subject) (job : ℕ) (to : Option ℕ) (fresh : Option (List ℕ))
    → moved_text m s job to fresh ≡ moved_text l s job to fresh
same_moved l m same s job (Some folder) None = ap (λ folders. moved_text (record l { folders = folders }) s job (Some folder) None) same
same_moved l m same s job (Some folder) (Some unique) = ap (λ folders. moved_text (record l { folders = folders }) s job (Some folder) (Some unique)) same
same_moved l m same s job None fresh = ap (λ folders. moved_text (record l { folders = folders }) s job None fresh) same

same_missed : (l m : Log) → m.folders ≡ l.folders → (s : Subject) (job : ℕ) (to : Option ℕ) → missed_text m s job to ≡ missed_text l s job to
same_missed l m same s job (Some folder) = ap (λ folders. missed_text (record l { folders = folders }) s job (Some folder)) same
same_missed l m same s job None = ap (λ folders. missed_text (record l { folders = folders }) s job None) same

same_answer : (l m : Log) → m.folders ≡ l.folders → (s : Subject) (job : ℕ) (a : Answer) → answered_text m s job a ≡ answered_text l s job a
same_answer l m same s job answer.Copied = same_copied l m same s job s.to s.fresh
same_answer l m same s job answer.Moved = same_moved l m same s job s.to s.fresh
same_answer l m same s job answer.NotThere = same_missed l m same s job s.to
same_answer l m same s job answer.Delivered =
    ap (λ folders. answered_text (record l { folders = folders }) s job answer.Delivered) same
same_answer l m same s job (answer.Flags flags) =
    ap (λ folders. answered_text (record l { folders = folders }) s job (answer.Flags flags)) same
same_answer l m same s job answer.Expunged =
    ap (λ folders. answered_text (record l { folders = folders }) s job answer.Expunged) same
same_answer l m same s job (answer.Cleaned files) =
    ap (λ folders. answered_text (record l { folders = folders }) s job (answer.Cleaned files)) same
same_answer l m same s job answer.NotTrashed =
    ap (λ folders. answered_text (record l { folders = folders }) s job answer.NotTrashed) same
same_answer l m same s job answer.OtherInfo =
    ap (λ folders. answered_text (record l { folders = folders }) s job answer.OtherInfo) same
same_answer l m same s job answer.Lost =
    ap (λ folders. answered_text (record l { folders = folders }) s job answer.Lost) same
same_answer l m same s job answer.TimedOut =
    ap (λ folders. answered_text (record l { folders = folders }) s job answer.TimedOut) same
same_answer l m same s job answer.TmpGone =
    ap (λ folders. answered_text (record l { folders = folders }) s job answer.TmpGone) same
same_answer l m same s job answer.NameTaken =
    ap (λ folders. answered_text (record l { folders = folders }) s job answer.NameTaken) same
same_answer l m same s job answer.Fault =
    ap (λ folders. answered_text (record l { folders = folders }) s job answer.Fault) same

-- so an answer is told as before
pub at_answer : {F : Type 0} {bytes : List ℕ} {l m n : Log} → GrowsIf F bytes l m → (s : Subject) (job : ℕ) (a : Answer)
    → Grows (answered_text m s job a) m n → Grows (answered_text l s job a) m n
at_answer {F} {bytes} {l} {m} {n} grown s job a more = subst (λ text. Grows text m n) (same_answer l m grown.folders s job a) more

same_line : (l m : Log) → m.folders ≡ l.folders → (event : Event) (a : Answer) (of : Option Subject)
    → answer_lines_of m event a of ≡ answer_lines_of l event a of
same_line l m same event a None = refl
same_line l m same event a (Some s) =
    ap (λ text. decimal event.now ++ codes " job" ++ text ++ codes "\n") (same_answer l m same s event.job a)

-- and so is its line
pub at_line : {F : Type 0} {bytes : List ℕ} {l m n : Log} → Grows bytes l m → (event : Event) (a : Answer) (of : Option Subject)
    → GrowsIf F (answer_lines_of m event a of) m n → GrowsIf F (answer_lines_of l event a of) m n
at_line {F} {bytes} {l} {m} {n} grown event a of more = subst (λ text. GrowsIf F text m n) (same_line l m grown.folders event a of) more

-- How a part of a reading goes on with it.
use Rattle.std.proofs.Common.{ℕ, ◌≡◌, ◌==◌, ◌&&◌, ◌||◌, cond, List, [], Option, Some, None, Bool, true, false, refl, sym, ap, subst, ◌∙◌}
use Rattle.std.specs.List.{list_any}
use Rattle.std.specs.Str.{bytes_eq}
use Rattle.std.proofs.lemmas.Bool.Decides.{Decides-eqb}
use Rattle.indexmap.specs.IndexSet.{contains}
use Rattle.md_dirs.specs.Path.{path_of}
use Rattle.md_name.specs.Names.{unique_of}
use Rattle.md_log.specs.declared.line.Reply.TheVariants as reply
use Rattle.md_law.specs.Messages.{is_message}
use Rattle.md_law.specs.Readings.{Looker}
use Rattle.md_monitor.specs.Readings.{is_name_of}
use Rattle.md_dirs.specs.Index.{directory_number}
use Rattle.md_kept.specs.declared.directory.Directory.{Directory}
use Rattle.md_kept.specs.declared.paths.Paths.{Paths}
use Rattle.md_watch.specs.declared.readings.Reading.{Reading}
use Rattle.md_watch.specs.declared.readings.Readings.{Readings}
use Rattle.md_watch.specs.declared.spells.Spells.{Spells}
use Rattle.md_kept.specs.Directories.{directory_in}
use Rattle.md_watch.specs.Readings.{Adds, IsTakenIn, TakesIn, TakesPart, begun_of, has_shown, is_named, lacks, reading_in, shows_other}
use Rattle.md_kept.specs.Tables.{Puts, value_at, is_key}
use Rattle.md_kept.proofs.Keys.{key-is}

-- ---- a part

pub itself : (n : ℕ) → (n == n) ≡ true
itself n = (Decides-eqb n n).1 refl

pub and-true : (b : Bool) → (b && true) ≡ b
and-true true = refl
and-true false = refl

-- a name of a directory is one of a message of its folder
pub named-same : (d : Looker) (unique name : List ℕ) → is_named d.place unique name ≡ is_name_of d unique name
named-same d unique name =
    let is = is_message (path_of d.folder d.place name) in
    let same = bytes_eq (unique_of name) unique in
    sym (ap (λ b. (is && b) && same) (itself d.folder) ∙ ap (λ b. b && same) (and-true is))

module _ (n : ℕ) (d : Looker) (o : Option Reading) where
  pub resumes-none : (r : Reading) → o ≡ None → r.begun ≡ n → ((name : List ℕ) → contains bytes_eq r.names name ≡ false)
      → ((unique : List ℕ) → contains bytes_eq r.uniques unique ≡ false) → TakesIn n d [] o r
  resumes-none r is begun names uniques =
      subst (λ v. TakesIn n d [] v r) (sym is) (record { begun = begun; names = names; uniques = uniques })

  pub resumes-some : (r : Reading) → o ≡ Some r → TakesIn n d [] o r
  resumes-some r is =
      subst (λ v. TakesIn n d [] v r) (sym is) (record { begun = refl; names = λ name. refl; uniques = λ unique. refl })

  pub takes-in : (shown : List (List ℕ)) (r new : Reading) → TakesIn n d [] o r → Adds d.place shown r new → TakesIn n d shown o new
  takes-in shown r new resumes adds = record {
    begun = adds.begun ∙ resumes.begun;
    names = λ name. adds.names name ∙ ap (λ b. list_any (λ other. bytes_eq other name) shown || b) (resumes.names name);
    uniques = λ unique. adds.uniques unique
        ∙ (λ i. list_any (λ name. named-same d unique name i) shown || resumes.uniques unique i);
  }

-- ---- what a part leaves

self-key : (number : ℕ) (name : List ℕ) → is_key (number, name) (number, name) ≡ true
self-key number name = (key-is (number, name) (number, name)).1 (refl, refl)

module _ (n : ℕ) (d : Looker) (shown : List (List ℕ)) (old mid : Readings)
    (taken : Puts (directory_number d.folder d.place) d.actor None old.all mid.all) where
  gone : reading_in mid d ≡ None
  gone = taken (directory_number d.folder d.place) d.actor
      ∙ ap (λ b. cond b None (reading_in old d)) (self-key (directory_number d.folder d.place) d.actor)

  beside : (m : ℕ) (q : List ℕ) → is_key (directory_number d.folder d.place, d.actor) (m, q) ≡ false
      → value_at mid.all m q ≡ value_at old.all m q
  beside m q other = taken m q ∙ ap (λ b. cond b None (value_at old.all m q)) other

  -- more follows
  pub leaves-open : (new : Readings) (r : Reading) (k : ℕ) → k ≡ directory_number d.folder d.place → Puts k d.actor (Some r) mid.all new.all
      → TakesIn n d shown (reading_in old d) r → TakesPart n d reply.More shown old new None
  leaves-open new r k same puts takes = record {
    here = (subst (λ v. IsTakenIn n d shown (reading_in old d) v) (sym there) takes, refl);
    others = λ m q other. put m q ∙ ap (λ b. cond b (Some r) (value_at mid.all m q)) other ∙ beside m q other;
  }
    where
      put : Puts (directory_number d.folder d.place) d.actor (Some r) mid.all new.all
      put = subst (λ j. Puts j d.actor (Some r) mid.all new.all) same puts

      there : reading_in new d ≡ Some r
      there = put (directory_number d.folder d.place) d.actor
          ∙ ap (λ b. cond b (Some r) (reading_in mid d)) (self-key (directory_number d.folder d.place) d.actor)

  -- it is the last
  pub leaves-whole : (r : Reading) → TakesIn n d shown (reading_in old d) r → TakesPart n d reply.Ok shown old mid (Some r)
  leaves-whole r takes = record { here = (gone, takes); others = beside }

-- ---- what it is found to be

module _ (n : ℕ) (d : Looker) (o : Option Reading) where
  module _ (t : Paths) (names : Spells) (shown : List (List ℕ)) where
    abbrev number : ℕ
    number = directory_number d.folder d.place

    abbrev pub shows_one : Bool
    shows_one = shows_other (directory_in t number) names number (begun_of n o) shown

    abbrev pub lacks_one : Bool
    lacks_one = lacks (directory_in t number) names number (begun_of n o)
        (λ name. list_any (λ other. bytes_eq other name) shown || has_shown o name) n

    module _ (dir : Option Directory) (k : ℕ) (here : dir ≡ directory_in t number) (same : k ≡ number) where
      pub shows-one : (begun : ℕ) (found : List (List ℕ)) → begun ≡ begun_of n o → found ≡ shown
          → shows_other dir names k begun found ≡ shows_one
      shows-one begun found since is = λ i. shows_other (here i) names (same i) (since i) (is i)

      pub lacks-one : (r : Reading) → TakesIn n d shown o r → lacks dir names k r.begun (contains bytes_eq r.names) n ≡ lacks_one
      lacks-one r takes = λ i. lacks (here i) names (same i) (takes.begun i) (λ name. takes.names name i) n

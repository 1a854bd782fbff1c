-- Which names directories use up, by what look-ups of them tell.
use Rattle.std.proofs.Common.{ℕ, ◌≡◌, ◌<◌, ◌+◌, ◌∙◌, inl, inr, List, [], ◌∷◌, Option, Some, None, Bool, true, false, is_some, ◌||◌, refl, sym, ap, subst, arith}
use Rattle.std.proofs.lemmas.Bool.{cases_lt, and_parts, and_from}
use Rattle.std.proofs.lemmas.Slice.Eq.{bytes_eq-Decides}
use Rattle.md_dirs.proofs.PathOrder.{path_total, path_exact}
use Rattle.md_core.proofs.Values.{State, IsSound, Place, Tmp, New, Cur, file_at, file_by, path_of, bytes_at_path, Path, unique_of, Entry, mailbox_of, entry_of, is_tmp, is_message, HasOnePath, list_any, option_map, option_and_then, bytes_eq, get, entries, File, is_message_of, is_tmp_of}
use Rattle.lists.proofs.Members.{Has, get-has, has-get}
use Rattle.md_core.proofs.Mailbox.Shown.{mailbox-shows, shows-mailbox}

-- ---- some, and none, of a list

pub has-any : {X : Type 0} (q : X → Bool) (xs : List X) (x : X) → Has xs x → q x ≡ true → list_any q xs ≡ true
has-any q [] x has is = absurd has
has-any q (y ∷ xs) x has is = elim has [
  | inl same ↦ ap (λ b. b || list_any q xs) (ap q (sym same) ∙ is)
  | inr later ↦ ap (λ b. q y || b) (has-any q xs x later is) ∙ or_true (q y)
]
  where
    or_true : (b : Bool) → (b || true) ≡ true
    or_true true = refl
    or_true false = refl

pub any-none : {X : Type 0} (q : X → Bool) (xs : List X) → ((x : X) → Has xs x → q x ≡ false) → list_any q xs ≡ false
any-none q [] none = refl
any-none q (y ∷ xs) none = λ i. none y (inl refl) i || any-none q xs (λ x has. none x (inr has)) i

pub never : (b : Bool) → (b ≡ true → ⊥) → b ≡ false
never true h = absurd (h refl)
never false h = refl

map-some : {X Y : Type 0} (f : X → Y) (o : Option X) → is_some (option_map f o) ≡ is_some o
map-some f None = refl
map-some f (Some x) = refl

-- what two looks in turn tell of either
pub at-first : (found message tmp : Bool) → found ≡ true → found ≡ message → found ≡ (message || tmp)
at-first found message tmp some is = some ∙ ap (λ b. b || tmp) (sym some ∙ is)

pub at-last : (missed found message tmp : Bool) → missed ≡ false → missed ≡ message → found ≡ tmp → found ≡ (message || tmp)
at-last missed found message tmp none is rest = rest ∙ ap (λ b. b || tmp) (sym none ∙ is)

-- ---- tmp

module _ (s : State) (name : List ℕ) where
  -- no file in the tmp of a folder before a number has the name
  abbrev pub NotInTmp : ℕ → Type 0
  NotInTmp folder = (k : ℕ) → k < folder → file_at s (path_of k Tmp name) ≡ None

  pub tmp-more : IsSound s → (folder : ℕ) → NotInTmp folder → bytes_at_path s (path_of folder Tmp name) ≡ None → NotInTmp (folder + 1)
  tmp-more sound folder before none k within = elim (cases_lt k folder) [
    | inl below ↦ before k below
    | inr here ↦ let same : folder ≡ k = omega (arith, here, within) in
        subst (λ n. file_at s (path_of n Tmp name) ≡ None) same (by (file_at s (path_of folder Tmp name)) refl none)
  ]
    where
      read : (n : ℕ) (o : Option File) → file_by s.files n ≡ o → file_at s (path_of folder Tmp name) ≡ Some n →
          option_map (λ (f : File). f.bytes) o ≡ None → ⊥
      read n None at there none = let filed = sound.filed (path_of folder Tmp name) n there in cc
      read n (Some file) at there none = cc

      by : (o : Option ℕ) → file_at s (path_of folder Tmp name) ≡ o → option_map (λ (f : File). f.bytes) (option_and_then (file_by s.files) o) ≡ None → o ≡ None
      by None there none = refl
      by (Some n) there none = absurd (read n (file_by s.files n) refl there none)

  pub in-tmp : (folder : ℕ) (bytes : List ℕ) → bytes_at_path s (path_of folder Tmp name) ≡ Some bytes →
      list_any (λ e. is_tmp_of name e.0) (entries s.names) ≡ true
  in-tmp folder bytes is = by (file_at s (path_of folder Tmp name)) refl is
    where
      by : (o : Option ℕ) → file_at s (path_of folder Tmp name) ≡ o → option_map (λ (f : File). f.bytes) (option_and_then (file_by s.files) o) ≡ Some bytes →
          list_any (λ e. is_tmp_of name e.0) (entries s.names) ≡ true
      by None there is = cc
      by (Some n) there is =
          has-any (λ e. is_tmp_of name e.0) (entries s.names) (path_of folder Tmp name, n)
          (get-has path_total path_exact s.names (path_of folder Tmp name) n there) ((bytes_eq-Decides name name).1 refl)

  pub read-in-tmp : {B : Type 0} (view : B → List ℕ) (folder : ℕ) (o : Option B) → option_map view o ≡ bytes_at_path s (path_of folder Tmp name) →
      is_some o ≡ true → list_any (λ e. is_tmp_of name e.0) (entries s.names) ≡ true
  read-in-tmp view folder None is some = cc
  read-in-tmp view folder (Some b) is some = in-tmp folder (view b) (sym is)

  pub none-read : {B : Type 0} (view : B → List ℕ) (folder : ℕ) (o : Option B) → option_map view o ≡ bytes_at_path s (path_of folder Tmp name) →
      is_some o ≡ false → bytes_at_path s (path_of folder Tmp name) ≡ None
  none-read view folder None is none = sym is
  none-read view folder (Some b) is none = cc

  pub none-in-tmp : IsSound s → NotInTmp s.folders → list_any (λ e. is_tmp_of name e.0) (entries s.names) ≡ false
  none-in-tmp sound none = any-none (λ e. is_tmp_of name e.0) (entries s.names) (λ x has.
      never (is_tmp_of name x.0) (λ is.
      let there = has-get path_total path_exact s.names x has in
      let parts = and_parts (is_tmp x.0.place) (bytes_eq x.0.name name) is in
      at x.0 x.1 x.0.place refl parts.0 ((bytes_eq-Decides x.0.name name).0 parts.1) there))
    where
      at : (p : Path) (n : ℕ) (place : Place) → p.place ≡ place → is_tmp p.place ≡ true → p.name ≡ name → file_at s p ≡ Some n → ⊥
      at p n Tmp place tmp same there =
          let here : p ≡ path_of p.folder Tmp name = λ i. record { folder = p.folder; place = place i; name = same i } in
          let no = none p.folder (sound.housed p n there) in
          let yes : file_at s (path_of p.folder Tmp name) ≡ Some n = ap (file_at s) (sym here) ∙ there in
          cc
      at p n New place tmp same there = let no : is_tmp p.place ≡ false = ap is_tmp place in cc
      at p n Cur place tmp same there = let no : is_tmp p.place ≡ false = ap is_tmp place in cc

  -- ---- messages

  holds-message : HasOnePath s → (b : Bool) → b ≡ is_some (get (mailbox_of s) name) → b ≡ list_any (λ e. is_message_of name e.0) (entries s.names)
  holds-message one b is = is ∙ by (get (mailbox_of s) name) refl
    where
      by : (o : Option Entry) → get (mailbox_of s) name ≡ o → is_some o ≡ list_any (λ e. is_message_of name e.0) (entries s.names)
      by (Some e) there =
          let h = mailbox-shows s name e there in
          sym (has-any (λ x. is_message_of name x.0) (entries s.names) (h.path, h.file) (get-has path_total path_exact s.names h.path h.file h.there)
          (and_from (is_message h.path) (bytes_eq (unique_of h.path.name) name) h.message ((bytes_eq-Decides (unique_of h.path.name) name).1 h.unique)))
      by None there = sym (any-none (λ x. is_message_of name x.0) (entries s.names) (λ x has.
          never (is_message_of name x.0) (λ is.
          let parts = and_parts (is_message x.0) (bytes_eq (unique_of x.0.name) name) is in
          let some = shows-mailbox s name (entry_of s x.0 x.1) one (record {
            path = x.0;
            file = x.1;
            there = has-get path_total path_exact s.names x has;
            message = parts.0;
            unique = (bytes_eq-Decides (unique_of x.0.name) name).0 parts.1;
            entry = refl;
          }) in
          cc)))

  -- a look for its bytes tells whether a message has the name
  pub bytes-tell : {B : Type 0} (view : B → List ℕ) (o : Option B) (found : Bool) → HasOnePath s → found ≡ is_some o →
      option_map view o ≡ option_map (λ (e : Entry). e.bytes) (get (mailbox_of s) name) → found ≡ list_any (λ e. is_message_of name e.0) (entries s.names)
  bytes-tell view o found one tells is =
      holds-message one found
      (tells ∙ sym (map-some view o) ∙ ap is_some is ∙ map-some (λ (e : Entry). e.bytes) (get (mailbox_of s) name))

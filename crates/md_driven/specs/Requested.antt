-- What C sees of a directory call that a driven job asks for.
use Rattle.std.specs.Prelude.{ℕ, ◌≡◌, List, [], ◌++◌, length}
use Rattle.md_dirs.specs.Path.{place_index}
use Rattle.md_dirs.specs.declared.paths.Path.{Path}
use Rattle.md_jobs.specs.Asked.{Asked, create, append, link, rename, unlink, list}
use Rattle.md_driven.specs.Laying.{Lays}
use Rattle.md_driven.specs.declared.request.RequestShown.{RequestShown}

-- a call of a number on one name, with the bytes that it brings
abbrev pub one_path : ℕ → Path → List ℕ → RequestShown
one_path call p bytes = record {
  call = call;
  folder = p.folder;
  place = place_index p.place;
  to_folder = 0;
  to_place = 0;
  reserved = 0;
  first = length p.name;
  second = length bytes;
}

-- a call of a number on two names
abbrev pub two_paths : ℕ → Path → Path → RequestShown
two_paths call old new = record (one_path call old new.name) { to_folder = new.folder; to_place = place_index new.place }

-- a call as it is shown
abbrev pub request_shown : Asked → RequestShown
request_shown (create p) = one_path 1 p []
request_shown (append p bytes) = one_path 2 p bytes
request_shown (link old new) = two_paths 3 old new
request_shown (rename old new) = two_paths 4 old new
request_shown (unlink p) = one_path 5 p []
request_shown (list folder place) = one_path 6 (record { folder = folder; place = place; name = [] }) []

-- the bytes of a call: its name, and then its second name or what it adds
abbrev pub request_bytes : Asked → List ℕ
request_bytes (create p) = p.name ++ []
request_bytes (append p bytes) = p.name ++ bytes
request_bytes (link old new) = old.name ++ new.name
request_bytes (rename old new) = old.name ++ new.name
request_bytes (unlink p) = p.name ++ []
request_bytes (list folder place) = []

-- a call was shown, and its bytes were laid; or there was no room for them
abbrev pub LaysRequest : Asked → RequestShown → List ℕ → List ℕ → ℕ → ℕ → Type 0
LaysRequest asked shown old new whole status = (shown ≡ request_shown asked) × Lays (request_bytes asked) old new whole status

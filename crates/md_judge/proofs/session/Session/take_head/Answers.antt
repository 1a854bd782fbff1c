use Rattle.std.proofs.Common.{suc, ◌≡◌, ◌∷◌, Ok, OnOk, IsOk, refl, sym, ap, subst, ◌∙◌}
use Rattle.md_log.specs.declared.line.Line.{Line}
use Rattle.md_log.specs.Folders.{with_folder}
use Rattle.md_judge.specs.declared.session.Session.{Session}
use Rattle.md_judge.specs.Logs.{Log, with_line, with_folder_line}
use Rattle.md_judge.specs.Placed.{HasPlaced}
use Rattle.md_judge.specs.Taken.{Agrees}
use Rattle.md_judge.proofs.Answering.{ok-one, ok-both}
use Rattle.md_judge.proofs.Beginning.{placed-beginning, beginning-placed, allows}
use Rattle.md_judge.proofs.Heading.{held, first, folder-head, file-head, name-head, file-agrees, name-agrees, folder-agrees}
use Rattle.md_judge.proofs.session.Session.take_head.Goals as goal

pub returns-in-Folder-clause-placed : goal.returns-in-Folder-clause-placed
returns-in-Folder-clause-placed c = λ l l' p none head is.
    let s = c.args.self.now in
    let puts = c.put_folder.ensures.puts (first l) (held c.args.number l s p none) in
    let named = c.as_slice.ensures in
    ok-both c.put_folder.result c.put_folder.ensures.folders puts (λ folders holds.
    folder-head c.args.number l s p none l' c.put_folder.new.self c.put_folder.ensures.keeps c.in-Folder.name
    (ap (λ n. with_folder s.folders n) (sym named) ∙ folders) holds
    (subst (λ (x : Line). with_line l c.args.number x ≡ Ok l') c.in-Folder.is is))

pub returns-in-Folder-clause-agrees : goal.returns-in-Folder-clause-agrees
returns-in-Folder-clause-agrees c = λ l p none.
    subst (λ (x : Line). Agrees c.put_folder.result (with_line l c.args.number x)) (sym c.in-Folder.is)
    (subst (λ n. Agrees c.put_folder.result (with_folder_line l n)) c.as_slice.ensures
    (folder-agrees l c.put_folder.result c.args.self.now.folders c.put_folder.new.self.folders c.as_slice.result.now p.waiting.read.folders
    c.put_folder.ensures.folders c.put_folder.ensures.refused))

pub returns-in-Allow-clause-placed : goal.returns-in-Allow-clause-placed
returns-in-Allow-clause-placed c = λ l l' p none head is.
    let is' = subst (λ (x : Line). with_line l c.args.number x ≡ Ok l') c.in-Allow.is is in
    let same : record l { allowed = c.in-Allow.clause ∷ l.allowed } ≡ l' = cc is' in
    let t : Session = record c.args.self.now { allowed = c.add.new.self } in
    subst (λ (m : Log). HasPlaced (suc c.args.number) m t) same
    (beginning-placed (suc c.args.number) (record l { allowed = c.in-Allow.clause ∷ l.allowed }) t
    (allows l c.args.self.now t c.in-Allow.clause (placed-beginning c.args.number l c.args.self.now none p) refl refl refl refl refl c.add.ensures))

pub returns-in-Allow-clause-agrees : goal.returns-in-Allow-clause-agrees
returns-in-Allow-clause-agrees c = λ l p none. subst (λ (x : Line). IsOk (with_line l c.args.number x)) (sym c.in-Allow.is) refl

pub returns-in-File-clause-placed : goal.returns-in-File-clause-placed
returns-in-File-clause-placed c = λ l l' p none head is.
    let s = c.args.self.now in
    ok-one c.put_file.result (c.put_file.ensures.puts (first l) (held c.args.number l s p none)) (λ puts.
    file-head c.args.number l s p none l' c.put_file.new.self c.put_file.ensures.keeps c.in-File.path c.in-File.stamp c.put_file.ensures.folders puts
    (subst (λ (x : Line). with_line l c.args.number x ≡ Ok l') c.in-File.is is))

pub returns-in-File-clause-agrees : goal.returns-in-File-clause-agrees
returns-in-File-clause-agrees c = λ l p none.
    let holds = held c.args.number l c.args.self.now p none in
    subst (λ (x : Line). Agrees c.put_file.result (with_line l c.args.number x)) (sym c.in-File.is)
    (file-agrees l c.put_file.result c.put_file.new.self.watch c.in-File.path c.in-File.stamp (c.put_file.ensures.puts (first l) holds)
    (c.put_file.ensures.refused (first l) holds))

pub returns-in-Also-clause-placed : goal.returns-in-Also-clause-placed
returns-in-Also-clause-placed c = λ l l' p none head is.
    let s = c.args.self.now in
    ok-one c.put_name.result (c.put_name.ensures.puts (first l) (held c.args.number l s p none)) (λ puts.
    name-head c.args.number l s p none l' c.put_name.new.self c.put_name.ensures.keeps c.in-Also.path c.in-Also.old c.put_name.ensures.folders puts
    (subst (λ (x : Line). with_line l c.args.number x ≡ Ok l') c.in-Also.is is))

pub returns-in-Also-clause-agrees : goal.returns-in-Also-clause-agrees
returns-in-Also-clause-agrees c = λ l p none.
    let holds = held c.args.number l c.args.self.now p none in
    subst (λ (x : Line). Agrees c.put_name.result (with_line l c.args.number x)) (sym c.in-Also.is)
    (name-agrees l c.put_name.result c.put_name.new.self.watch c.in-Also.path c.in-Also.old (c.put_name.ensures.puts (first l) holds)
    (c.put_name.ensures.refused (first l) holds))

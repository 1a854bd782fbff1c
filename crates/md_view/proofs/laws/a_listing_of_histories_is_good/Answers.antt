use Rattle.md_core.specs.History.{names_of}
use Rattle.md_core.specs.Mailbox.{mailbox_of}
use Rattle.md_core.specs.Runs.{dirs_of}
use Rattle.md_listing.proofs.LawHolds.{good-history}
use Rattle.md_view.proofs.laws.a_listing_of_histories_is_good.Goals as goal

pub returns : goal.returns
returns g c =
    let s = dirs_of c.args.opening.now in
    good-history s c.args.history.now (c.names_show_their_directories.ensures.shown s)
    (c.legal_histories_keep_messages_out_of_new.ensures s.folders (names_of (mailbox_of s)) c.args.history.now c.requires.legal)
    c.args.folder c.args.read_new c.args.read_cur c.requires.order

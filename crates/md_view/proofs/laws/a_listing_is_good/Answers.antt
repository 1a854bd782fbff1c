use Rattle.md_listing.proofs.LawHolds.{good-run}
use Rattle.md_view.proofs.laws.a_listing_is_good.Goals as goal

pub returns : goal.returns
returns g c =
    good-run c.names_show_their_directories.ensures.shown c.legal_histories_keep_messages_out_of_new.ensures c.args.world.now
    c.interleaves.ensures.theorem c.args.folder c.args.read_new c.args.read_cur c.requires

use Rattle.std.proofs.Common.{inl, refl, ap, ◌∙◌}
use Rattle.cw_io.specs.Told.{with_back}
use Rattle.cw_http.specs.Replies.{reply_text}
use Rattle.std.proofs.Common.{true}
use Rattle.cw_conn.proofs.refusing.refuse.Goals as goal

pub returns-in-Ok-write_reply-clause-end : goal.returns-in-Ok-write_reply-clause-end
returns-in-Ok-write_reply-clause-end g c =
    inl (inl (refl, c.in-Ok-write_reply.ensures.whole ∙ ap (λ r. with_back (reply_text r true) (g.L.Link.held c.args.link.now)) c.in-Ok.ensures))

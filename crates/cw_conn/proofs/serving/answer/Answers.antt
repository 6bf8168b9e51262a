use Rattle.std.proofs.Common.{◌≡◌, [], ◌∷◌, ◌++◌, refl, subst, arith, Bor}
use Rattle.std.specs.Prelude.{MatchResult}
use Rattle.cw_model.specs.declared.journal.JournalEntry.{JournalEntry}
use Rattle.cw_conn.proofs.Lasts.{wanting, goes_on, shuts_behind, fails_in}
use Rattle.cw_conn.proofs.serving.answer.Goals as goal

pub returns-in_default-clause-off : goal.returns-in_default-clause-off
returns-in_default-clause-off g c before behind taken =
    wanting c.args.number c.requires before behind (g.L.Link.held c.args.link.now) (g.L.Link.held c.end_wanting.new.link)
    (g.K.Desk.entries c.args.desk.now) (g.K.Desk.entries c.args.desk.now) refl
    c.end_wanting.result (c.args.request.now ∷ []) (omega arith) (behind, taken, refl) c.end_wanting.ensures.end

pub returns-in-Ok-write_reply-clause-on : goal.returns-in-Ok-write_reply-clause-on
returns-in-Ok-write_reply-clause-on g c =
    let after = subst (λ r. MatchResult r (λ (e : Bor JournalEntry). g.K.Desk.entries c.answer.follows.lender-at-none ≡ g.K.Desk.entries c.args.desk.now ++ e.now ∷ []) (λ _. g.K.Desk.entries c.answer.follows.lender-at-none ≡ g.K.Desk.entries c.args.desk.now)) c.in-Ok-answer.is c.answer.follows.holds-at-none in
    goes_on c.args.number c.requires c.args.request.now c.in-Ok-answer.entry.now c.in-Ok.call c.shuts-shut.result
    (g.L.Link.held c.args.link.now) (g.L.Link.held c.write_reply.new.link) (g.K.Desk.entries c.args.desk.now) (g.K.Desk.entries c.answer.follows.lender-at-none)
    c.in-Ok-answer.ensures.call c.in-Ok.ensures c.shuts-shut.ensures after c.in-Ok-write_reply.ensures.whole c.end_behind.result c.end_behind.ensures.on

pub returns-in-Ok-write_reply-clause-off : goal.returns-in-Ok-write_reply-clause-off
returns-in-Ok-write_reply-clause-off g c =
    let after = subst (λ r. MatchResult r (λ (e : Bor JournalEntry). g.K.Desk.entries c.answer.follows.lender-at-none ≡ g.K.Desk.entries c.args.desk.now ++ e.now ∷ []) (λ _. g.K.Desk.entries c.answer.follows.lender-at-none ≡ g.K.Desk.entries c.args.desk.now)) c.in-Ok-answer.is c.answer.follows.holds-at-none in
    shuts_behind c.args.number c.requires c.args.request.now c.in-Ok-answer.entry.now c.in-Ok.call c.shuts-shut.result
    (g.L.Link.held c.args.link.now) (g.L.Link.held c.write_reply.new.link) (g.K.Desk.entries c.args.desk.now) (g.K.Desk.entries c.answer.follows.lender-at-none)
    c.in-Ok-answer.ensures.call c.in-Ok.ensures c.shuts-shut.ensures after c.in-Ok-write_reply.ensures.whole c.end_behind.result c.end_behind.ensures.off

pub returns-in-Err-write_reply-clause-off : goal.returns-in-Err-write_reply-clause-off
returns-in-Err-write_reply-clause-off g c =
    let after = subst (λ r. MatchResult r (λ (e : Bor JournalEntry). g.K.Desk.entries c.answer.follows.lender-at-none ≡ g.K.Desk.entries c.args.desk.now ++ e.now ∷ []) (λ _. g.K.Desk.entries c.answer.follows.lender-at-none ≡ g.K.Desk.entries c.args.desk.now)) c.in-Ok-answer.is c.answer.follows.holds-at-none in
    fails_in c.args.number c.requires c.args.request.now c.in-Ok-answer.entry.now c.in-Ok.call c.shuts-shut.result
    (g.L.Link.held c.args.link.now) (g.L.Link.held c.write_reply.new.link) (g.K.Desk.entries c.args.desk.now) (g.K.Desk.entries c.answer.follows.lender-at-none)
    c.in-Ok-answer.ensures.call c.in-Ok.ensures c.shuts-shut.ensures after c.in-Err-write_reply.ensures.in_part

pub returns-in-Err-clause-off : goal.returns-in-Err-clause-off
returns-in-Err-clause-off g c before behind taken =
    let stays = subst (λ r. MatchResult r (λ (e : Bor JournalEntry). g.K.Desk.entries c.answer.follows.lender-at-none ≡ g.K.Desk.entries c.args.desk.now ++ e.now ∷ []) (λ _. g.K.Desk.entries c.answer.follows.lender-at-none ≡ g.K.Desk.entries c.args.desk.now)) c.in-Err.is c.answer.follows.holds-at-none in
    wanting c.args.number c.requires before behind (g.L.Link.held c.args.link.now) (g.L.Link.held c.end_wanting-in-Err.new.link)
    (g.K.Desk.entries c.args.desk.now) (g.K.Desk.entries c.answer.follows.lender-at-none) stays
    c.end_wanting-in-Err.result (c.args.request.now ∷ []) (omega arith) (behind, taken, refl) c.end_wanting-in-Err.ensures.end

use Rattle.std.proofs.Common.{◌+◌, ◌≤◌, ℕ, List, take, refl, sym, ◌∙◌, ap, subst, arith}
use Rattle.std.proofs.lemmas.List.{take-take}
use Rattle.cw_disk.proofs.Moments.{adds_then, adds_weaker}
use Rattle.cw_log.specs.Log.{StandsFor, StandAlike, HasHead, places_of}
use Rattle.cw_log.specs.State.{HasFront}
use Rattle.cw_log.proofs.Gates.{reads_adds, told_after, told_before}
use Rattle.cw_log.proofs.Opened.{is_none, made_kept, gate_within, front_alike, front_stands, kept_front, bodies_front, trimmed}
use Rattle.cw_log.proofs.Sides.{ends_at_gate, front_head}
use Rattle.cw_log.proofs.open.open_made.Goals as goal

pub returns-in_err-trim-clause-adds : goal.returns-in_err-trim-clause-adds
returns-in_err-trim-clause-adds g c file is =
    let found = c.in_ok-found.ensures.found file is in
    let kept = made_kept c.args.kind c.in_ok-found.found.gate (places_of c.in_ok-found.found) file c.args.head.now found.0 (c.requires.head file is (omega (arith, c.requires.size file is, c.if-size-lt17.false))) (c.requires.made file is).1 (sym c.harm_in.ensures ∙ is_none c.harm_in.result c.in_default.not-Some) in
    adds_then g.D.Disk.moment g.D.Disk.left_since c.args.disk.now c.scan.new.disk c.trim.new.disk (StandAlike c.args.kind file)
    (reads_adds g.D.Disk.holds g.D.Disk.may_leave g.D.Disk.moment g.D.Disk.left_since g.D.Disk.count g.D.Disk.reserved g.met.D.Disk.counts_now c.args.disk.now c.scan.new.disk (StandAlike c.args.kind file) c.scan.ensures.reads)
    (adds_weaker g.D.Disk.moment g.D.Disk.left_since c.scan.new.disk c.trim.new.disk (HasFront (c.in_ok-found.found.gate + 1) file) (StandAlike c.args.kind file) (c.trim.ensures.adds file (c.scan.ensures.reads.same ∙ is))
    (λ image same. front_alike c.args.kind c.in_ok-found.found.gate (places_of c.in_ok-found.found) file image found.1.0 kept found.1.1 same))

pub returns-clause-kept : goal.returns-clause-kept
returns-clause-kept g c now told =
    let before = told_before (take (c.in_ok-found.found.gate + 1)) (g.D.Disk.holds c.scan.new.disk) now (sym c.in_ok-trim.ensures.done ∙ told) in
    let file = before.0 in
    let is = sym c.scan.ensures.reads.same ∙ before.1 in
    let found = c.in_ok-found.ensures.found file is in
    let kept = made_kept c.args.kind c.in_ok-found.found.gate (places_of c.in_ok-found.found) file c.args.head.now found.0 (c.requires.head file is (omega (arith, c.requires.size file is, c.if-size-lt17.false))) (c.requires.made file is).1 (sym c.harm_in.ensures ∙ is_none c.harm_in.result c.in_default.not-Some) in
    let end = trimmed c.in_ok-found.found.gate file found.1.0 now (gate_within c.in_ok-found.found.gate (places_of c.in_ok-found.found) file found.0).1 found.1.1 (sym before.2) in
    (kept_front c.args.kind c.in_ok-found.found.gate (places_of c.in_ok-found.found) file now kept end.1, record { end = end.0; only = c.in_ok-trim.ensures.durable now told })

pub returns-clause-list : goal.returns-clause-list
returns-clause-list g c file is =
    let found = c.in_ok-found.ensures.found file is in
    let kept = made_kept c.args.kind c.in_ok-found.found.gate (places_of c.in_ok-found.found) file c.args.head.now found.0 (c.requires.head file is (omega (arith, c.requires.size file is, c.if-size-lt17.false))) (c.requires.made file is).1 (sym c.harm_in.ensures ∙ is_none c.harm_in.result c.in_default.not-Some) in
    let now = take (c.in_ok-found.found.gate + 1) file in
    let end = trimmed c.in_ok-found.found.gate file found.1.0 now (gate_within c.in_ok-found.found.gate (places_of c.in_ok-found.found) file found.0).1 found.1.1 refl in
    record {
      new = now;
      told = told_after (take (c.in_ok-found.found.gate + 1)) (g.D.Disk.holds c.scan.new.disk) (g.D.Disk.holds c.trim.new.disk) file now c.in_ok-trim.ensures.done (c.scan.ensures.reads.same ∙ is) refl;
      stands = subst (λ (bodies : List (List ℕ)). StandsFor c.args.kind bodies file) (sym (bodies_front c.in_ok-found.found.gate (places_of c.in_ok-found.found) file now found.0 end.1))
          (front_stands c.args.kind c.in_ok-found.found.gate (places_of c.in_ok-found.found) file file found.1.0 kept found.1.1 refl);
    }

pub returns-clause-adds : goal.returns-clause-adds
returns-clause-adds g c file is =
    let found = c.in_ok-found.ensures.found file is in
    let kept = made_kept c.args.kind c.in_ok-found.found.gate (places_of c.in_ok-found.found) file c.args.head.now found.0 (c.requires.head file is (omega (arith, c.requires.size file is, c.if-size-lt17.false))) (c.requires.made file is).1 (sym c.harm_in.ensures ∙ is_none c.harm_in.result c.in_default.not-Some) in
    adds_then g.D.Disk.moment g.D.Disk.left_since c.args.disk.now c.scan.new.disk c.trim.new.disk (StandAlike c.args.kind file)
    (reads_adds g.D.Disk.holds g.D.Disk.may_leave g.D.Disk.moment g.D.Disk.left_since g.D.Disk.count g.D.Disk.reserved g.met.D.Disk.counts_now c.args.disk.now c.scan.new.disk (StandAlike c.args.kind file) c.scan.ensures.reads)
    (adds_weaker g.D.Disk.moment g.D.Disk.left_since c.scan.new.disk c.trim.new.disk (HasFront (c.in_ok-found.found.gate + 1) file) (StandAlike c.args.kind file) (c.trim.ensures.adds file (c.scan.ensures.reads.same ∙ is))
    (λ image same. front_alike c.args.kind c.in_ok-found.found.gate (places_of c.in_ok-found.found) file image found.1.0 kept found.1.1 same))

pub returns-clause-seen : goal.returns-clause-seen
returns-clause-seen g c none now told =
    let before = told_before (take (c.in_ok-found.found.gate + 1)) (g.D.Disk.holds c.scan.new.disk) now (sym c.in_ok-trim.ensures.done ∙ told) in
    let file = before.0 in
    let is = sym c.scan.ensures.reads.same ∙ before.1 in
    let found = c.in_ok-found.ensures.found file is in
    let end = trimmed c.in_ok-found.found.gate file found.1.0 now (gate_within c.in_ok-found.found.gate (places_of c.in_ok-found.found) file found.0).1 found.1.1 (sym before.2) in
    subst (g.V.BodyVisitor.has_seen c.scan.new.visitor) (sym (bodies_front c.in_ok-found.found.gate (places_of c.in_ok-found.found) file now found.0 end.1)) (c.in_ok-found.ensures.seen file is none)

pub returns-clause-bytes : goal.returns-clause-bytes
returns-clause-bytes g c file is =
    let found = c.in_ok-found.ensures.found file is in
    ends_at_gate c.in_ok-found.found.gate (places_of c.in_ok-found.found) file found.1.0 (g.D.Disk.holds c.trim.new.disk) found.0 found.1.1
    (told_after (take (c.in_ok-found.found.gate + 1)) (g.D.Disk.holds c.scan.new.disk) (g.D.Disk.holds c.trim.new.disk) file _ c.in_ok-trim.ensures.done (c.scan.ensures.reads.same ∙ is) refl)

pub returns-clause-same : goal.returns-clause-same
returns-clause-same g c now told =
    let before = told_before (take (c.in_ok-found.found.gate + 1)) (g.D.Disk.holds c.scan.new.disk) now (sym c.in_ok-trim.ensures.done ∙ told) in
    let file = before.0 in
    let is = sym c.scan.ensures.reads.same ∙ before.1 in
    let long : 16 ≤ c.in_ok-found.found.gate + 1 = omega (arith, c.in_ok-found.ensures.gate.0) in
    ap (take 16) (sym before.2) ∙ take-take 16 (c.in_ok-found.found.gate + 1) file long ∙ sym (c.requires.head file is (omega (arith, c.requires.size file is, c.if-size-lt17.false)))

pub returns-in_err-trim-clause-head : goal.returns-in_err-trim-clause-head
returns-in_err-trim-clause-head g c file is =
    adds_then g.D.Disk.moment g.D.Disk.left_since c.args.disk.now c.scan.new.disk c.trim.new.disk (HasHead file)
    (reads_adds g.D.Disk.holds g.D.Disk.may_leave g.D.Disk.moment g.D.Disk.left_since g.D.Disk.count g.D.Disk.reserved g.met.D.Disk.counts_now c.args.disk.now c.scan.new.disk (HasHead file) c.scan.ensures.reads)
    (adds_weaker g.D.Disk.moment g.D.Disk.left_since c.scan.new.disk c.trim.new.disk (HasFront (c.in_ok-found.found.gate + 1) file) (HasHead file) (c.trim.ensures.adds file (c.scan.ensures.reads.same ∙ is))
    (λ image same. front_head (c.in_ok-found.found.gate + 1) file image (omega (arith, c.in_ok-found.ensures.gate.0)) same))

pub returns-clause-head : goal.returns-clause-head
returns-clause-head g c file is =
    adds_then g.D.Disk.moment g.D.Disk.left_since c.args.disk.now c.scan.new.disk c.trim.new.disk (HasHead file)
    (reads_adds g.D.Disk.holds g.D.Disk.may_leave g.D.Disk.moment g.D.Disk.left_since g.D.Disk.count g.D.Disk.reserved g.met.D.Disk.counts_now c.args.disk.now c.scan.new.disk (HasHead file) c.scan.ensures.reads)
    (adds_weaker g.D.Disk.moment g.D.Disk.left_since c.scan.new.disk c.trim.new.disk (HasFront (c.in_ok-found.found.gate + 1) file) (HasHead file) (c.trim.ensures.adds file (c.scan.ensures.reads.same ∙ is))
    (λ image same. front_head (c.in_ok-found.found.gate + 1) file image (omega (arith, c.in_ok-found.ensures.gate.0)) same))

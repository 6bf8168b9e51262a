-- Where a line is left on its way, what it did is a run.
use Rattle.std.proofs.Common.{◌≡◌, ◌⊎◌, inl, inr, ℕ, List, true, Option, Some, None, Result, Ok, Err, IsSome, refl, sym, subst}
use Rattle.cw_script.specs.declared.directive.Directive.{Directive}
use Rattle.cw_script.specs.declared.directive.Directive.TheVariants.{Init, Commit, Spawn, Kill, Deaf, Hear, Expire, Clock, Tick, Step, Settle, Rest, Held, Member, Take, Compact}
use Rattle.cw_script.specs.declared.fault.LineKind.{LineKind}
use Rattle.cw_script.specs.Lines.{line_of}
use Rattle.cw_script.specs.Spelling.{IsSayable}
use Rattle.cw_script.proofs.Sayable.{line_sayable}
use Rattle.cw_route.specs.HeldNames.{HoldsName}
use Rattle.cw_route.specs.declared.call.Call.{Call}
use Rattle.cw_rest.specs.Calls.{Deed, reads, reads_configs, writes_configs, writes_offsets, restarts, deed_of}
use Rattle.cw_rest.specs.Replies.{values_of, offsets_of, connector_set}
use Rattle.cw_model.specs.State.{Setting, Cluster}
use Rattle.cw_model.specs.Facts.{AreFacts}
use Rattle.cw_model.specs.Lookups.{row_of}
use Rattle.cw_model.specs.Runs as step
use Rattle.cw_edges.specs.Requests.{seen_now, would_succeed, call_of, written}
use Rattle.cw_run.specs.Amid.{IsAmid, IsHalfSettled, ran_behind, IsRanAmid}
use Rattle.cw_run.specs.Directives.{does}
use Rattle.cw_run.specs.Ran.{Ran, alone}
use Rattle.cw_run.specs.Reaches.{Reaches, HaveNames}
use Rattle.cw_run.specs.Rules.{IsSaidAmid, IsLineAmid}
use Rattle.cw_run.proofs.BodyTexts.{call-written}
use Rattle.cw_run.proofs.LineRuns.{directive-runs, request-named}
use Rattle.cw_run.proofs.Reaching.{stays, makes}
use Rattle.cw_run.proofs.RequestRuns.{configs-may, sets-may}
use Rattle.cw_run.proofs.SettleRuns.{settled-runs}
use Rattle.cw_laws.proofs.Proposed.{ready-leads}

module _ (setting : Setting) (feeds : HaveNames setting) (s : Cluster) (f : AreFacts setting s) where
  written-run : (w leader : ℕ) (call : Call) → HoldsName call → IsSome (row_of leader s).lead → would_succeed setting w call s ≡ true → (deed : Deed) → deed_of call ≡ deed →
      Reaches setting s (written setting w call deed leader s)
  written-run w leader call named leads succeeds reads is = stays setting s
  written-run w leader call named leads succeeds reads_configs is = stays setting s
  written-run w leader call named leads succeeds writes_configs is =
      makes setting s (step.append_config leader (values_of call)) (configs-may setting s f w call named (call-written call named) feeds is leader leads succeeds)
  written-run w leader call named leads succeeds writes_offsets is =
      makes setting s (step.set_offsets leader (connector_set call) (offsets_of (seen_now setting w call s) call)) (sets-may setting s f w call named is leader leads succeeds)
  written-run w leader call named leads succeeds restarts is = stays setting s

  either-run : (d : Directive) (t : Cluster) → IsSayable d → (t ≡ s) ⊎ (t ≡ (does setting d s).1) → Reaches setting s t
  either-run d t is (inl same) = subst (Reaches setting s) (sym same) (stays setting s)
  either-run d t is (inr same) = subst (Reaches setting s) (sym same) (directive-runs setting feeds d is s f)

  pub amid-runs : (d : Directive) (t : Cluster) → IsSayable d → IsAmid setting d s t → Reaches setting s t
  amid-runs (Settle most) t is amid = subst (Reaches setting s) (sym amid.is) (settled-runs setting s f amid.moved (alone s) (stays setting s))
  amid-runs (Rest w method target body) t is (inl same) = subst (Reaches setting s) (sym same) (stays setting s)
  amid-runs (Rest w method target body) t is (inr (inl half)) =
      let call : Call = call_of method target body in
      subst (Reaches setting s) (sym half.is) (written-run w half.leader call (request-named method target body) (ready-leads w half.leader s half.through) half.succeeds (deed_of call) refl)
  amid-runs (Rest w method target body) t is (inr (inr same)) = subst (Reaches setting s) (sym same) (directive-runs setting feeds (Rest w method target body) is s f)
  amid-runs (Init n) t is amid = either-run (Init n) t is amid
  amid-runs (Commit n epoch pairs) t is amid = either-run (Commit n epoch pairs) t is amid
  amid-runs Spawn t is amid = either-run Spawn t is amid
  amid-runs (Kill w) t is amid = either-run (Kill w) t is amid
  amid-runs (Deaf w) t is amid = either-run (Deaf w) t is amid
  amid-runs (Hear w) t is amid = either-run (Hear w) t is amid
  amid-runs (Expire w) t is amid = either-run (Expire w) t is amid
  amid-runs (Clock to) t is amid = either-run (Clock to) t is amid
  amid-runs (Tick w) t is amid = either-run (Tick w) t is amid
  amid-runs (Step i) t is amid = either-run (Step i) t is amid
  amid-runs (Held w) t is amid = either-run (Held w) t is amid
  amid-runs (Member w) t is amid = either-run (Member w) t is amid
  amid-runs (Take topic from) t is amid = either-run (Take topic from) t is amid
  amid-runs (Compact name) t is amid = either-run (Compact name) t is amid

-- ---- with the files

module _ (setting : Setting) (feeds : HaveNames setting) (r : Ran) (f : AreFacts setting r.cluster) where
  abbrev At : Ran → Type 0
  At t = Reaches setting r.cluster t.cluster

  half-run : (most : ℕ) (t : Ran) → IsHalfSettled setting most r t → At t
  half-run most t half = subst At (sym half.is) (settled-runs setting r.cluster f half.moved r (stays setting r.cluster))

  behind-run : (d : Directive) (t : Ran) → IsSayable d → t ≡ ran_behind setting d r → At t
  behind-run d t is same = subst At (sym same) (directive-runs setting feeds d is r.cluster f)

  ran-amid-runs : (d : Directive) (t : Ran) → IsSayable d → IsRanAmid setting d r t → At t
  ran-amid-runs (Settle most) t is (inl half) = half-run most t half
  ran-amid-runs (Settle most) t is (inr off) =
      subst (Reaches setting r.cluster) (sym off.cut.cluster) (subst At (sym off.is) (settled-runs setting r.cluster f off.moved r (stays setting r.cluster)))
  ran-amid-runs (Rest w method target body) t is amid = amid-runs setting feeds r.cluster f (Rest w method target body) t.cluster is amid.cluster
  ran-amid-runs (Step i) t is (inl same) = behind-run (Step i) t is same
  ran-amid-runs (Step i) t is (inr off) = subst (Reaches setting r.cluster) (sym off.cluster) (stays setting r.cluster)
  ran-amid-runs (Init n) t is amid = behind-run (Init n) t is amid
  ran-amid-runs (Commit n epoch pairs) t is amid = behind-run (Commit n epoch pairs) t is amid
  ran-amid-runs Spawn t is amid = behind-run Spawn t is amid
  ran-amid-runs (Kill w) t is amid = behind-run (Kill w) t is amid
  ran-amid-runs (Deaf w) t is amid = behind-run (Deaf w) t is amid
  ran-amid-runs (Hear w) t is amid = behind-run (Hear w) t is amid
  ran-amid-runs (Expire w) t is amid = behind-run (Expire w) t is amid
  ran-amid-runs (Clock to) t is amid = behind-run (Clock to) t is amid
  ran-amid-runs (Tick w) t is amid = behind-run (Tick w) t is amid
  ran-amid-runs (Held w) t is amid = behind-run (Held w) t is amid
  ran-amid-runs (Member w) t is amid = behind-run (Member w) t is amid
  ran-amid-runs (Take topic from) t is amid = behind-run (Take topic from) t is amid
  ran-amid-runs (Compact name) t is amid = behind-run (Compact name) t is amid

  said-amid-runs : (result : Result (Option Directive) LineKind) (t : Ran) → ((d : Directive) → result ≡ Ok (Some d) → IsSayable d) → IsSaidAmid setting result r t → At t
  said-amid-runs (Ok (Some d)) t is amid = ran-amid-runs d t (is d refl) amid.1
  said-amid-runs (Ok None) t is amid = absurd amid
  said-amid-runs (Err kind) t is amid = absurd amid

  pub line-amid-runs : (number : ℕ) (line : List ℕ) (t : Ran) → IsLineAmid setting number line r t → At t
  line-amid-runs number line t (inl same) = subst At (sym same) (stays setting r.cluster)
  line-amid-runs number line t (inr amid) = said-amid-runs (line_of line) t (λ d is. line_sayable line d is) amid

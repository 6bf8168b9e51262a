-- Where a line of a script may be left when memory runs out in it: before it, behind it, or behind some of its events,
-- in their order; and where a sink's task can't write its file, besides with a delivery that was cut off. This
-- project's own.
use Rattle.std.specs.Prelude.{◌≡◌, ◌⊎◌, ◌≤◌, ◌<◌, ◌+◌, ℕ, Option, Some, None}
use Rattle.cw_io.specs.Shelf.{Files}
use Rattle.cw_script.specs.declared.directive.Directive.{Directive}
use Rattle.cw_script.specs.declared.directive.Directive.TheVariants.{Step, Settle, Rest}
use Rattle.cw_model.specs.State.{Setting, Cluster}
use Rattle.cw_edges.specs.Requests.{answers, call_of, HasWritten}
use Rattle.cw_run.specs.Directives.{does}
use Rattle.cw_run.specs.Ran.{Ran, alone, with_cluster, ran_step, stepped_files, IsCutIn}
use Rattle.cw_run.specs.Settling.{settled}

-- a cluster was settling: fewer turns have moved something
pub record IsHalfSettled (setting : Setting) (most : ℕ) (r t : Ran) : Type 0 where
  pub moved : ℕ
  pub fewer : moved ≤ most
  pub is : t ≡ (settled setting moved r).ran

-- The same, and the delivery of an instance was cut off there. Where files are told and no disk has failed, its step is
-- the one that would have moved something next.
pub record IsCutSettling (setting : Setting) (most : ℕ) (r t : Ran) : Type 0 where
  pub moved : ℕ
  pub fewer : moved < most
  pub at : Ran
  pub is : at ≡ (settled setting moved r).ran
  pub instance : ℕ
  pub cut : IsCutIn instance at t
  pub next : (held : Files) → at.files ≡ Some held → at.cluster.closed ≡ None →
      (ran_step setting instance at).1 ≡ (settled setting (moved + 1) r).ran

-- a cluster was settling, or a delivery was cut off
abbrev pub IsAmidSettling : Setting → (most : ℕ) → (r t : Ran) → Type 0
IsAmidSettling setting most r t = IsHalfSettled setting most r t ⊎ IsCutSettling setting most r t

-- the cluster alone was settling
pub record IsClusterSettling (setting : Setting) (most : ℕ) (s t : Cluster) : Type 0 where
  pub moved : ℕ
  pub fewer : moved ≤ most
  pub is : t ≡ (settled setting moved (alone s)).ran.cluster

-- ---- the cluster

-- a line was left on its way
abbrev pub IsAmid : Setting → Directive → Cluster → Cluster → Type 0
IsAmid setting (Settle most) s t = IsClusterSettling setting most s t
IsAmid setting (Rest w method target body) s t =
    (t ≡ s) ⊎ (HasWritten setting w (call_of method target body) s t ⊎
    (t ≡ (answers setting w (call_of method target body) s).1))
IsAmid setting directive s t = (t ≡ s) ⊎ (t ≡ (does setting directive s).1)

-- ---- the files, too

-- the files behind a directive
abbrev pub files_behind : Setting → Directive → Ran → Option Files
files_behind setting (Step i) r = stepped_files i r.cluster r.files
files_behind setting (Settle most) r = (settled setting most r).ran.files
files_behind setting directive r = r.files

-- how far it ran behind a directive
abbrev pub ran_behind : Setting → Directive → Ran → Ran
ran_behind setting directive r = record r {
  cluster = (does setting directive r.cluster).1;
  files = files_behind setting directive r;
}

-- a request was left on its way, and the files are as they were
pub record IsRequestAmid (setting : Setting) (request : Directive) (r t : Ran) : Type 0 where
  pub cluster : IsAmid setting request r.cluster t.cluster
  pub same : t ≡ with_cluster t.cluster r

-- a line was left on its way: a step, too, whose delivery was cut off
abbrev pub IsRanAmid : Setting → Directive → Ran → Ran → Type 0
IsRanAmid setting (Settle most) r t = IsAmidSettling setting most r t
IsRanAmid setting (Rest w method target body) r t = IsRequestAmid setting (Rest w method target body) r t
IsRanAmid setting (Step i) r t = (t ≡ ran_behind setting (Step i) r) ⊎ IsCutIn i r t
IsRanAmid setting directive r t = t ≡ ran_behind setting directive r

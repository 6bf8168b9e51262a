-- Words are one command.
use Rattle.std.proofs.Common.{◌≡◌, Option, None, Some}
use Rattle.cw_words.specs.declared.command.Command.{Command}
use Rattle.cw_words.specs.declared.command.Command.TheVariants.{Drive, Audit, Gen, Serve}
use Rattle.cw_words.specs.declared.command.GenOptions.{GenOptions}
use Rattle.cw_words.specs.declared.command.Options.{Options}
use Rattle.cw_words.specs.declared.command.ServeOptions.{ServeOptions}

module _ (asked : Option Command) where
  pub same_command : (a b : Command) → asked ≡ Some a → asked ≡ Some b → a ≡ b
  same_command a b one two = cc

  pub same_drive : (a b : Options) → asked ≡ Some (Drive a) → asked ≡ Some (Drive b) → a ≡ b
  same_drive a b one two = cc

  pub same_audit : (a b : Options) → asked ≡ Some (Audit a) → asked ≡ Some (Audit b) → a ≡ b
  same_audit a b one two = cc

  pub same_gen : (a b : GenOptions) → asked ≡ Some (Gen a) → asked ≡ Some (Gen b) → a ≡ b
  same_gen a b one two = cc

  pub drive_or_audit : (a b : Options) → asked ≡ Some (Drive a) → asked ≡ Some (Audit b) → ⊥
  drive_or_audit a b one two = cc

  pub drive_or_gen : (a : Options) (b : GenOptions) → asked ≡ Some (Drive a) → asked ≡ Some (Gen b) → ⊥
  drive_or_gen a b one two = cc

  pub audit_or_gen : (a : Options) (b : GenOptions) → asked ≡ Some (Audit a) → asked ≡ Some (Gen b) → ⊥
  audit_or_gen a b one two = cc

  pub same_serve : (a b : ServeOptions) → asked ≡ Some (Serve a) → asked ≡ Some (Serve b) → a ≡ b
  same_serve a b one two = cc

  pub drive_or_serve : (a : Options) (b : ServeOptions) → asked ≡ Some (Drive a) → asked ≡ Some (Serve b) → ⊥
  drive_or_serve a b one two = cc

  pub audit_or_serve : (a : Options) (b : ServeOptions) → asked ≡ Some (Audit a) → asked ≡ Some (Serve b) → ⊥
  audit_or_serve a b one two = cc

  pub gen_or_serve : (a : GenOptions) (b : ServeOptions) → asked ≡ Some (Gen a) → asked ≡ Some (Serve b) → ⊥
  gen_or_serve a b one two = cc

  pub some_or_none : (a : Command) → asked ≡ Some a → asked ≡ None → ⊥
  some_or_none a one two = cc

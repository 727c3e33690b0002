-- Calls on the files hear and say nothing.
use Rattle.std.proofs.Common.{ℕ, List, Result}
use Rattle.file_model.specs.declared.files.Failed.{Failed}
use Rattle.file_model.specs.Disk.{Call, make, cut, write_at, sync, rename, sync_dir}
use Rattle.file_model.specs.Histories.{History, GoesOn, Ran}
use Rattle.file_model.proofs.Runs.{now_all, ran_call}

on_files : (call : Call) (result : Result (Unit {0}) Failed) (old new : History) → GoesOn call result old new → Ran (λ start instant. Unit {0}) old new
on_files call result old new on = ran_call (λ d. Unit {0}) (λ start instant. Unit {0}) call (λ d p. tt) (λ d e p failed. tt) result old new (now_all (λ w. Unit {0}) (λ w. tt) old) on

module _ (result : Result (Unit {0}) Failed) (old new : History) where
  pub files_make : (path : List ℕ) → GoesOn (make path) result old new → Ran (λ start instant. Unit {0}) old new
  files_make path on = on_files (make path) result old new on

  pub files_cut : (path : List ℕ) (n : ℕ) → GoesOn (cut path n) result old new → Ran (λ start instant. Unit {0}) old new
  files_cut path n on = on_files (cut path n) result old new on

  pub files_write : (path : List ℕ) (place : ℕ) (bytes : List ℕ) → GoesOn (write_at path place bytes) result old new → Ran (λ start instant. Unit {0}) old new
  files_write path place bytes on = on_files (write_at path place bytes) result old new on

  pub files_sync : (path : List ℕ) → GoesOn (sync path) result old new → Ran (λ start instant. Unit {0}) old new
  files_sync path on = on_files (sync path) result old new on

  pub files_rename : (from to : List ℕ) → GoesOn (rename from to) result old new → Ran (λ start instant. Unit {0}) old new
  files_rename from to on = on_files (rename from to) result old new on

  pub files_sync_dir : (path : List ℕ) → GoesOn (sync_dir path) result old new → Ran (λ start instant. Unit {0}) old new
  files_sync_dir path on = on_files (sync_dir path) result old new on

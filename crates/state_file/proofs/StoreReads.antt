-- Reads of a store, one after the other, and the failures of two disks.
use Rattle.std.proofs.Common.{◌≡◌, ℕ, Bool, false, List, Result, Err, refl, sym, ◌∙◌, subst}
use Rattle.std.specs.Prelude.{IsTrue}
use Rattle.state_file.specs.Carried.{carried}
use Rattle.state_file.specs.Disk.{MayLeave}
use Rattle.state_file.specs.FileStore.{disk_of, has_stopped}
use Rattle.state_file.specs.Filling.{CountsEither}
use Rattle.state_file.specs.inner.Filling.{IsCopied}
use Rattle.state_file.specs.inner.StoreReads.{ReadsStore}
use Rattle.state_file.specs.declared.disk.Disk as disk
use Rattle.state_file.specs.declared.migration.MigrateFault.{MigrateFault}
use Rattle.state_file.specs.declared.record.Record.{Record}
use Rattle.state_file.specs.declared.store.file_store.FileStore.{FileStore}
use Rattle.state_file.proofs.Finding.{reads_none, reads_on}

pub reads_store_none : {D : Type 0} {bound : _} (d : disk.Ghosts D) (old : FileStore D bound) → (IsTrue (d.honest (disk_of old)) → (c : List ℕ) → d.left_since (disk_of old) (d.moment (disk_of old)) c → MayLeave (d.state (disk_of old)) c)
    → ReadsStore d old old
reads_store_none d old only = record {
  records = refl;
  reads = λ honest running. reads_none d.state d.moment d.left_since (disk_of old) (only honest);
  past_ends = λ honest. refl;
  honest = refl;
}

pub reads_store_on : {D : Type 0} {bound : _} (d : disk.Ghosts D) (old mid new : FileStore D bound) → has_stopped mid ≡ false → ReadsStore d old mid → ReadsStore d mid new → ReadsStore d old new
reads_store_on d old mid new still first second = record {
  records = second.records ∙ first.records;
  reads = λ honest running. reads_on d.state d.moment d.left_since (disk_of old) (disk_of mid) (disk_of new) (first.reads honest running) (second.reads (first.honest ∙ honest) still);
  past_ends = λ honest. second.past_ends (first.honest ∙ honest) ∙ first.past_ends honest;
  honest = second.honest ∙ first.honest;
}

-- counts go on from a call that was Ok
pub counts_on : {A : Type 0} (h was : Bool) (a b c x y z : ℕ) (result : Result A MigrateFault) → was ≡ h → b ≡ a → y ≡ x → CountsEither was b c y z result → CountsEither h a c x z result
counts_on h was a b c x y z result same old new counts =
    subst (λ (k : Bool). CountsEither k a c x z result) same (subst (λ n. CountsEither was n c x z result) old (subst (λ n. CountsEither was b c n z result) new counts))

pub counts_fault : {A : Type 0} (h : Bool) (a c x z : ℕ) (result : Result A MigrateFault) (fault : MigrateFault) → result ≡ Err fault → CountsEither {A = A} h a c x z (Err fault) → CountsEither h a c x z result
counts_fault h a c x z result fault is counts = subst (λ (r : Result _ MigrateFault). CountsEither h a c x z r) (sym is) counts

pub copied_along : (a b : List Record) (k : ℕ) (tag content : List ℕ) → a ≡ b → IsCopied (carried a) k tag content → IsCopied (carried b) k tag content
copied_along a b k tag content same copied = subst (λ (l : List Record). IsCopied (carried l) k tag content) same copied

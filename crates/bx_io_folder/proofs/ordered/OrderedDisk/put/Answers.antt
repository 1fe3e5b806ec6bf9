use Rattle.std.proofs.Common.{◌≡◌, ◌∙◌, Global, Ok, Option, String, ap, string_bytes, subst, sym, true}
use Rattle.std.specs.Prelude.{IfSome}
use Rattle.bx_io_disk.specs.Files.{Files, is_created}
use Rattle.bx_io_folder.specs.NamedFiles.{IsBegun, SameNames}
use Rattle.bx_io_folder.specs.Order.{OwnsBut}
use Rattle.bx_io_folder.proofs.Files.{put_begun}
use Rattle.bx_io_folder.proofs.Locking.{owns_no_more, owns_same}
use Rattle.bx_io_folder.proofs.ordered.OrderedDisk.put.Goals as goal

pub returns-in_err-hold-clause-left : goal.returns-in_err-hold-clause-left
returns-in_err-hold-clause-left g c path is = owns_same (g.D.Disk.calls c.args.self.now.disk) (g.D.Disk.calls c.hold.new.self.disk) c.hold.ensures.own path is

pub returns-in_err-settle-clause-left : goal.returns-in_err-settle-clause-left
returns-in_err-settle-clause-left g c path is = sym (c.settle.ensures.goes_on.own path ∙ c.hold.ensures.own path) ∙ is

pub returns-in_err-begun-clause-left : goal.returns-in_err-begun-clause-left
returns-in_err-begun-clause-left g c path is =
    sym (c.in_err-begun.ensures.failed.own path ∙ c.settle.ensures.goes_on.own path ∙ c.hold.ensures.own path) ∙ is

pub complete-requires-clause-begun : goal.complete-requires-clause-begun
complete-requires-clause-begun g c =
    subst IsBegun (sym c.as_str.ensures.value)
    (subst (λ (o : Option (String Global)). IfSome o (λ path. IsBegun (string_bytes path))) c.in-Some.is c.in_ok-begun.ensures.begun)

pub complete-requires-clause-created : goal.complete-requires-clause-created
complete-requires-clause-created g c =
    ap (λ path. is_created path (g.D.Disk.calls c.begin.new.self.disk)) c.as_str.ensures.value
    ∙ subst (λ (o : Option (String Global)). IfSome o (λ path. is_created (string_bytes path) (g.D.Disk.calls c.begin.new.self.disk) ≡ true)) c.in-Some.is
    c.in_ok-begun.ensures.created

pub returns-in-Some-clause-put : goal.returns-in-Some-clause-put
returns-in-Some-clause-put g c known =
    put_begun _ _ _ c.args.name.now c.args.bytes.now c.complete.result
    (subst (λ (files : Files). SameNames files (g.D.Disk.files c.begin.new.self.disk)) (c.settle.ensures.files ∙ c.hold.ensures.files)
    (c.in_ok-begun.ensures.same known))
    (c.complete.ensures.put known)

pub returns-in-Some-clause-left : goal.returns-in-Some-clause-left
returns-in-Some-clause-left g c path is =
    let own : OwnsBut (string_bytes c.in-Some.begun) (g.D.Disk.calls c.settle.new.self.disk) (g.D.Disk.calls c.begin.new.self.disk) =
    subst (λ (o : Option (String Global)). IfSome o (λ p. OwnsBut (string_bytes p) (g.D.Disk.calls c.settle.new.self.disk) (g.D.Disk.calls c.begin.new.self.disk)))
    c.in-Some.is c.in_ok-begun.ensures.own in
    owns_no_more c.as_str.result.now (g.D.Disk.calls c.args.self.now.disk) (g.D.Disk.calls c.complete.new.self.disk)
    (λ q apart.
    c.complete.ensures.own q apart ∙ own q (λ same. apart (same ∙ sym c.as_str.ensures.value)) ∙ c.settle.ensures.goes_on.own q ∙ c.hold.ensures.own q)
    c.complete.ensures.gone path is

pub returns-in-None-clause-left : goal.returns-in-None-clause-left
returns-in-None-clause-left g c path is =
    sym ((c.in_ok-begun.ensures.none (ap Ok c.in-None.is)).own path ∙ c.settle.ensures.goes_on.own path ∙ c.hold.ensures.own path) ∙ is

pub returns-in-None-clause-put : goal.returns-in-None-clause-put
returns-in-None-clause-put g c known =
    subst (λ (files : Files). SameNames files (g.D.Disk.files c.begin.new.self.disk)) (c.settle.ensures.files ∙ c.hold.ensures.files)
    (c.in_ok-begun.ensures.same known)

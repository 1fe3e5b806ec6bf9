use Rattle.std.proofs.Common.{◌≡◌, List, false, true}
use Rattle.bx_io_disk.specs.Events.{Event}
use Rattle.bx_io_folder.specs.Order.{asks_alone, blob_letter, entry_letter, has_folders, is_durable, unsynced}
use Rattle.bx_io_folder.proofs.Locking.{after_sync, folders_synced, unsynced_before}
use Rattle.bx_io_folder.proofs.ordered.OrderedDisk.store.Goals as goal

pub invariant_of-self-2 : goal.invariant_of-self-2
invariant_of-self-2 g c =
    let was = c.sync_folders.new.self in
    let path = c.args.begun.now in
    let before = g.D.Disk.calls was.disk in
    let now = g.D.Disk.calls c.sync.new.self in
    let done = c.sync.ensures in record {
      durable = after_sync (λ (calls : List Event). is_durable calls ≡ true) path c.sync.result before now done.synced done.missing done.failed was.durable was.durable was.durable;
      blobs_known =
          after_sync (λ (calls : List Event). unsynced blob_letter calls ≡ true → was.blobs ≡ true) path c.sync.result before now done.synced done.missing done.failed
          (λ is. was.blobs_known (unsynced_before blob_letter path before is)) (λ is. was.blobs_known (unsynced_before blob_letter path before is)) was.blobs_known;
      entries_known =
          after_sync (λ (calls : List Event). unsynced entry_letter calls ≡ true → was.entries ≡ true) path c.sync.result before now done.synced done.missing done.failed
          (λ is. was.entries_known (unsynced_before entry_letter path before is)) (λ is. was.entries_known (unsynced_before entry_letter path before is)) was.entries_known;
      folders_known =
          after_sync (λ (calls : List Event). was.folders ≡ false → has_folders calls ≡ true) path c.sync.result before now done.synced done.missing done.failed
          (λ is. folders_synced path before (was.folders_known is)) was.folders_known was.folders_known;
      asked = after_sync (λ (calls : List Event). asks_alone calls ≡ was.alone) path c.sync.result before now done.synced done.missing done.failed was.asked was.asked was.asked;
    }

-- What a handle owns says the same to every thread.
use mir.Raw.{raw}
use base.Shift.{Keyless}
use denote.Memory.{lone}
use denote.Struct.Struct.{exits_of}
use denote.Struct.Owning.{shape, fields, to}
use denote.Param.Send.{IsSend, AllSend, owning_send, struct_send, sendable}
use Rattle.std.proofs.Crossing.{frees}
use Rattle.std.proofs.alloc.Global.TheSendSync as global
use Rattle.std.specs.Prelude.{Option, Some, None}
use Rattle.std.specs.declared.alloc.Global.{Global}
use Rattle.std.specs.contracts.impls.GlobalAllocator.TheImpl.{ghosts}
use Rattle.std_alloc.proofs.SendSync.{quiet, lies}
use denote.RawPtr.{Ptr}
use Rattle.warn_codes_c.specs.Kept.{kept}
use Rattle.warn_codes_c.specs.contracts.archive.Archive as archive
use Rattle.warn_codes_c.proofs.archive.Archive.TheSendSync.{the_send as archive_sends}
use Rattle.warn_codes_c.specs.contracts.handle.Handle.{the_row, the_type}

kept_keyless : (a : Global) (p : Ptr) (o : Option (archive.the_row.Denot)) → Keyless (kept (ghosts.dealloc_token a) archive.the_row p o)
kept_keyless a p None = tt
kept_keyless a p (Some x) = (lies archive.the_row archive_sends p x, frees.frees a (raw (lone (archive.the_row.mir))) p)

pub send : IsSend the_row
send =
    let all : AllSend (fields the_type) = (search sendable, (global.the_field_send, tt)) in
    owning_send the_type all (λ d. kept_keyless d.alloc d.at d.value) (λ k. quiet (to the_type) (exits_of k (fields the_type)) ((struct_send (shape the_type) all).leaving k))

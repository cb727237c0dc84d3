-- A session in each role.
use Rattle.std.specs.Prelude.{ℕ, Bool, true, false, List, Result}
use Rattle.taps_base.specs.declared.no_memory.NoMemory.{NoMemory}
use Rattle.taps_framer.specs.Layers.{Layer}
use Rattle.taps_preconnection.specs.declared.exchange.RunRole.{RunRole}
use Rattle.taps_preconnection.specs.declared.exchange.RunRole.TheVariants as role
use Rattle.taps_command.specs.Nets.{SocketsState}
use Rattle.taps_command.specs.Ready.{Ready}
use Rattle.taps_command.specs.declared.status.Status.{Status}
use Rattle.taps_session.specs.FileGroups.{has_one_member}
use Rattle.taps_session.specs.FileSessions.{plan_for, text_of}
use Rattle.taps_session.specs.Groups.{LeavesGrouped}
use Rattle.taps_session.specs.GroupLogs.{IsGrouped}
use Rattle.taps_session.specs.Loops.{IsBoth, LeavesBoth}
use Rattle.taps_session.specs.Services.{IsServed, LeavesService}
use Rattle.taps_session.specs.SessionLogs.{Held, Holds, IsHeld, IsLogged, LeavesSession}

-- a session of Initiate ran, with one member or of a group, and this is told of it
abbrev pub IsInitiatedBy : Bool → List Layer → Ready → Held → SocketsState → SocketsState → Type 0
IsInitiatedBy true shelf ready = IsHeld shelf ready
IsInitiatedBy false shelf ready = IsGrouped shelf ready

-- what the sockets may be then
abbrev pub LeavesInitiatedBy : Bool → List Layer → Ready → SocketsState → SocketsState → Type 0
LeavesInitiatedBy true shelf ready = LeavesSession shelf ready
LeavesInitiatedBy false shelf ready = LeavesGrouped shelf ready

-- it ran and this is told of it, or memory ran out
abbrev pub HoldsInitiatedBy : Bool → List Layer → Ready → Result Held NoMemory → SocketsState → SocketsState → Type 0
HoldsInitiatedBy one shelf ready = Holds (IsInitiatedBy one shelf ready) (LeavesInitiatedBy one shelf ready)

-- a session of this role ran on sockets of which no call had been made, and this is told of it; the file says whether
-- one of Initiate has one member
abbrev pub IsHeldAs : RunRole → List Layer → Ready → Held → SocketsState → SocketsState → Type 0
IsHeldAs role.Initiate shelf ready = IsInitiatedBy (has_one_member ready.pre) shelf ready
IsHeldAs role.Listen shelf ready = IsServed shelf ready
IsHeldAs role.Loop shelf ready = IsBoth shelf ready

-- what the sockets may be then
abbrev pub LeavesAs : RunRole → List Layer → Ready → SocketsState → SocketsState → Type 0
LeavesAs role.Initiate shelf ready = LeavesInitiatedBy (has_one_member ready.pre) shelf ready
LeavesAs role.Listen shelf ready = LeavesService shelf ready
LeavesAs role.Loop shelf ready = LeavesBoth shelf ready

-- it ran and this is told of it, or memory ran out
abbrev pub HoldsAs : RunRole → List Layer → Ready → Result Held NoMemory → SocketsState → SocketsState → Type 0
HoldsAs role shelf ready = Holds (IsHeldAs role shelf ready) (LeavesAs role shelf ready)

-- it ran; this is its log, and its status
abbrev pub IsLoggedAs : RunRole → List Layer → Ready → SocketsState → SocketsState → List ℕ → Status → Type 0
IsLoggedAs role shelf ready =
    IsLogged (IsHeldAs role shelf ready) (text_of ready.pre (plan_for role ready.pre ready.addresses))
    ready.pre.exchange.part

-- so it is in the file's own role
abbrev pub IsRunOn : List Layer → Ready → SocketsState → SocketsState → List ℕ → Status → Type 0
IsRunOn shelf ready = IsLoggedAs ready.pre.exchange.role shelf ready

abbrev pub LeavesRun : List Layer → Ready → SocketsState → SocketsState → Type 0
LeavesRun shelf ready = LeavesAs ready.pre.exchange.role shelf ready

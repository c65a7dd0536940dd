-- Shorthands of lists of examples: a small site, readings in ms, numbers and lines. No rule stands on them.
use Rattle.std.specs.Prelude.{ℕ, ◌*◌}
use Rattle.timer.specs.declared.Reading.{Reading}
use Rattle.lease.specs.declared.LeaseNum.{LeaseNum}
use Rattle.lease.specs.declared.LeaseAction.{LeaseAction}
use Rattle.lease.specs.declared.Line.{Line}
use Rattle.lease.specs.declared.Manager.{Manager}
use Rattle.lease.specs.SetUp.{setup_of}

-- The reading after so many ms.
abbrev pub ms : ℕ → Reading
ms n = record { 0 = n * 1000000 }

-- A lease number.
abbrev pub no : ℕ → LeaseNum
no n = record { 0 = n }

-- An action under a number (rule 1.5).
abbrev pub under : ℕ → LeaseAction → Line
under n a = record { 0 = no n; 1 = a }

-- The record of the small site: own id 0, population 3, T = 1 s, heartbeat 0, set up at the reading 0.
abbrev pub start : Manager
start = (setup_of 0 3 1000000000 0 (ms 0)).manager

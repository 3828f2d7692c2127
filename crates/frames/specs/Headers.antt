-- What line 1 says, a rack, by the rules' own record.
use Rattle.rules.specs.RunFile.{Header}
use Rattle.rack.specs.declared.Rack.{Rack}

abbrev pub said : Rack → Header
said rack = record { n = rack.counter.n; f = rack.counter.f; c = rack.counter.c; set = rack.set }

abbrev pub kept : Header → Rack
kept h = record { counter = record { n = h.n; f = h.f; c = h.c }; set = h.set }

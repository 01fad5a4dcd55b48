-- Which kinds of messages each reader takes.
-- Assumes nothing.
use Rattle.std.specs.Prelude.{Bool}
use Rattle.wire.specs.declared.kind.Kind.{Kind}
use Rattle.wire.specs.declared.reader.Reader.{Reader}
use Rattle.wire.specs.declared.reader.Reader.TheVariants.{Server, Client, Tool}
use Rattle.wire.specs.Kind.{table}

abbrev pub takes : Reader → Kind → Bool
takes Server k = (table k).server
takes Client k = (table k).client
takes Tool k = (table k).tool

-- What a folder is compared with, as the act sees it.
use Rattle.jverifies.specs.Verifying.{Sought}
use Rattle.jverifies.specs.declared.comparing.Against.{Against}

abbrev pub compared_with : Against → Sought
compared_with against = record {
  image = against.image.now;
  how = against.how;
  flash = against.flash;
}

pub mod Turning
pub mod TurnsAlong
pub mod Searching
pub mod RoundParts
pub mod PointsFound
pub mod Silent
pub mod GoingOn
pub mod StopsAlone

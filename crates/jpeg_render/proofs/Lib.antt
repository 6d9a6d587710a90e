-- Laws of rendering.
pub mod Drawing
pub mod Lanes
pub mod Shades
pub mod RowPlaces
pub mod Spreading
pub mod Mcus
pub mod RowDrawn
pub mod Fitting

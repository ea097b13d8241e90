mod Drawing
mod Listing
